-- Demand 3's distance: how far a denoised sample can lie from the centre sample, and how large its sum and total weight can be.
-- Over any list of other frames, any displaced samples and any shares that are at most the curve's weight of their difference. Assumes nothing.
use Rattle.std.proofs.Common.{◌≡◌, refl, ap, List, [], ◌∷◌, ℕ, suc, ◌+◌, ◌-◌, ◌*◌, ◌/◌, ◌≤◌, ◌<◌, div-lt_iff_lt-mul, le-div_iff_mul-le, le_trans, mul-le-mul_left, mul-le-mul_right, arith, length, get_or}
use Rattle.std.proofs.Math.Decide.{dec_le}
use Rattle.std.proofs.Math.Nat.{lt_of_mul-lt-mul_left}
use Rattle.laws.specs.Sums.{sum_over}
use Rattle.laws.specs.Largest.{nearest}
use Rattle.laws.proofs.Largest.{le-largest, nearest-le}
use Rattle.laws.proofs.Each.{Each, each_map}
use Rattle.prediction.specs.Samples.{distance}
use Rattle.weights.specs.Blend.{total_weight, weighted_sum, denoised, distance_bound}

-- the same with a smaller weight: a cap or an exclusion does not raise the bound
capped : (n e k w b : ℕ) → k ≤ w → 2 * (n * (e * w)) < (2 * b + 1) * (16 + n * w) → 2 * (n * (e * k)) < (2 * b + 1) * (16 + n * k)
capped n e k w b hk h = elim (dec_le (2 * e) (2 * b + 1)) [ yes l ↦ small l | no g ↦ large g ]
  where
    small : 2 * e ≤ 2 * b + 1 → 2 * (n * (e * k)) < (2 * b + 1) * (16 + n * k)
    small l = omega (arith, mul-le-mul_right (n * k) l)

    large : (2 * e ≤ 2 * b + 1 → ⊥) → 2 * (n * (e * k)) < (2 * b + 1) * (16 + n * k)
    large g =
        let d : ℕ = 2 * e - (2 * b + 1) in
        let e_is : 2 * e ≡ 2 * b + 1 + d = omega arith in
        omega (arith, ap (λ (t : ℕ). t * (n * w)) e_is, ap (λ (t : ℕ). t * (n * k)) e_is, mul-le-mul_left (n * d) hk)

-- a rounded mean lies within b of the centre, where the sum lies within a of total times the centre
rounds_near : (sum total centre a b : ℕ) → 0 < total → sum ≤ centre * total + a → centre * total ≤ sum + a → 2 * a < (2 * b + 1) * total
    → distance (denoised sum total) centre ≤ b
unfolding denoised
rounds_near sum total centre a b pos up down small =
    let q : ℕ = (sum + total / 2) / total in
    let high : q < centre + b + 1 = (div-lt_iff_lt-mul pos).1 (omega arith) in
    let low : centre - b ≤ q = (le-div_iff_mul-le pos).1 (reach (dec_le b centre)) in
    omega arith
  where
    reach : Dec (b ≤ centre) → (centre - b) * total ≤ sum + total / 2
    reach (yes l) =
        let c-is : centre ≡ centre - b + b = omega arith in
        omega (arith, ap (λ (t : ℕ). t * total) c-is)
    reach (no g) =
        let z : centre - b ≡ 0 = omega arith in
        omega (arith, ap (λ (t : ℕ). t * total) z)

pub each_all : {F : Type 0} {P : F → Type 0} (all : (f : F) → P f) (others : List F) → Each P others
each_all all [] = tt
each_all all (f ∷ fs) = (all f, each_all all fs)

pub each_at : {F : Type 0} (P : F → Type 0) (d : F) (others : List F) → ((k : ℕ) → k < length others → P (get_or others k d)) → Each P others
each_at P d [] at = tt
each_at P d (f ∷ fs) at = (at 0 (omega arith), each_at P d fs (λ k h. at (suc k) (omega arith)))

-- what is asked of a frame: its displaced sample is a byte, and its share is at most the curve's weight of their difference.
-- A share may be less: a cap, or 0 for an excluded block.
pub record Shared {F : Type 0} (weight : ℕ → ℕ) (centre : ℕ) (share displaced : F → ℕ) (f : F) : Type 0 where
  pub byte : displaced f < 256
  pub most : share f ≤ weight (distance (displaced f) centre)

module _ {F : Type 0} (centre n b : ℕ) (share displaced : F → ℕ) where
  -- one frame's part of the bound
  Fine : F → Type 0
  Fine f = 2 * (n * (distance (displaced f) centre * share f)) < (2 * b + 1) * (16 + n * share f)

  -- the differences times the shares, added up
  apart : List F → ℕ
  apart others = sum_over (λ f. distance (displaced f) centre * share f) others

  summed : (others : List F) → Each Fine others → 2 * (n * apart others) + length others ≤ (2 * b + 1) * (16 * length others + n * sum_over share others)
  unfolding apart sum_over Fine
  summed [] e = omega arith
  summed (f ∷ fs) e = omega (arith, summed fs e.1, e.0)

  -- the sum of the shares times the samples lies as near to the centre's as the differences allow
  above : (others : List F) → sum_over (λ f. share f * displaced f) others ≤ centre * sum_over share others + apart others
  unfolding apart sum_over
  above [] = omega arith
  above (f ∷ fs) =
      let h : displaced f ≤ centre + distance (displaced f) centre = omega arith in
      omega (arith, above fs, mul-le-mul_left (share f) h)

  below : (others : List F) → centre * sum_over share others ≤ sum_over (λ f. share f * displaced f) others + apart others
  unfolding apart sum_over
  below [] = omega arith
  below (f ∷ fs) =
      let h : centre ≤ displaced f + distance (displaced f) centre = omega arith in
      omega (arith, below fs, mul-le-mul_left (share f) h)

  -- with no other frame nothing is apart
  none : (others : List F) → length others ≤ 0 → apart others ≡ 0
  unfolding apart sum_over
  none [] e = refl
  none (f ∷ fs) e = absurd (omega arith)

  total-bound : (others : List F) → Each Fine others → length others ≡ n → 2 * apart others < (2 * b + 1) * total_weight share others
  unfolding total_weight
  total-bound others e long = go (dec_le n 0)
    where
      go : Dec (n ≤ 0) → 2 * apart others < (2 * b + 1) * (16 + sum_over share others)
      go (yes z) = omega (arith, none others (omega arith))
      go (no some) =
          lt_of_mul-lt-mul_left n
          (let s : 2 * (n * apart others) + n ≤ (2 * b + 1) * (16 * n + n * sum_over share others) = rw long at (summed others e) in
          omega arith)

  near : (others : List F) → Each Fine others → length others ≡ n
      → distance (denoised (weighted_sum centre share displaced others) (total_weight share others)) centre ≤ b
  near others e long =
      rounds_near (weighted_sum centre share displaced others) (total_weight share others) centre (apart others) b
      (unfold total_weight in omega arith)
      (unfold total_weight weighted_sum in omega (arith, above others))
      (unfold total_weight weighted_sum in omega (arith, below others))
      (total-bound others e long)

-- of any frames whose displaced samples are bytes
shares_most : {F : Type 0} (share displaced : F → ℕ) (others : List F) → Each (λ f. displaced f < 256) others
    → sum_over (λ f. share f * displaced f) others ≤ 255 * sum_over share others
unfolding sum_over
shares_most share displaced [] e = omega arith
shares_most share displaced (f ∷ fs) e =
    let h : displaced f ≤ 255 = omega (arith, e.0) in
    omega (arith, shares_most share displaced fs e.1, mul-le-mul_left (share f) h)

each_most : {F : Type 0} (share : F → ℕ) (m : ℕ) (others : List F) → Each (λ f. share f ≤ m) others → sum_over share others ≤ m * length others
unfolding sum_over
each_most share m [] e = omega arith
each_most share m (f ∷ fs) e = omega (arith, each_most share m fs e.1, e.0)

module _ {F : Type 0} (weight : ℕ → ℕ) (centre : ℕ) (share displaced : F → ℕ) (others : List F)
    (c-byte : centre < 256) (each : Each (Shared weight centre share displaced) others) where
  -- the denoised sample lies within the distance bound of the centre sample
  pub within-bound : distance (denoised (weighted_sum centre share displaced others) (total_weight share others)) centre ≤ distance_bound weight (length others)
  unfolding distance_bound Fine
  within-bound = near centre n bound share displaced others (each_map fine others each) refl
    where
      n : ℕ
      n = length others

      bound : ℕ
      bound = distance_bound weight n

      one : (e : ℕ) → e < 256 → 2 * (n * (e * weight e)) < (2 * bound + 1) * (16 + n * weight e)
      one e h =
          nearest-le (n * (e * weight e)) (16 + n * weight e) bound (omega arith)
          (le-largest (λ d. nearest (n * (d * weight d)) (16 + n * weight d)) 256 e h)

      fine : (f : F) → Shared weight centre share displaced f → Fine centre n bound share displaced f
      fine f s =
          let e : ℕ = distance (displaced f) centre in
          capped n e (share f) (weight e) bound s.most (one e (omega (arith, s.byte)))

  -- a sum is at most 255 times its total weight, and so the denoised sample is a byte
  pub sum-most : weighted_sum centre share displaced others ≤ 255 * total_weight share others
  unfolding weighted_sum total_weight
  sum-most = omega (arith, shares_most share displaced others (each_map (λ f s. s.byte) others each))

  pub denoised-byte : denoised (weighted_sum centre share displaced others) (total_weight share others) < 256
  unfolding denoised
  denoised-byte =
      let pos : 0 < total_weight share others = unfold total_weight in omega arith in
      (div-lt_iff_lt-mul pos).1 (omega (arith, sum-most))

  -- where no weight exceeds 16: a total is at most 16 for the centre and for each other frame
  pub total-most : ((e : ℕ) → weight e ≤ 16) → total_weight share others ≤ 16 + 16 * length others
  unfolding total_weight
  total-most sixteen =
      omega (arith, each_most share 16 others (each_map (λ f s. le_trans s.most (sixteen (distance (displaced f) centre))) others each))

  -- with at most 1023 other frames
  pub total-limit : ((e : ℕ) → weight e ≤ 16) → length others ≤ 1023 → total_weight share others ≤ 16384
  total-limit sixteen few = omega (arith, total-most sixteen)

  pub sum-limit : ((e : ℕ) → weight e ≤ 16) → length others ≤ 1023 → weighted_sum centre share displaced others ≤ 4177920
  sum-limit sixteen few = omega (arith, sum-most, total-limit sixteen few)
