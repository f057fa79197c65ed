-- Demand 3 over any rule: what the filled slices say of each sample. Assumes nothing.
use Rattle.std.proofs.Common.{◌≡◌, refl, sym, ap, ◌∙◌, List, [], ◌∷◌, ℕ, ◌+◌, ◌*◌, ◌/◌, ◌≤◌, ◌<◌, arith, length}
use Rattle.laws.specs.Sums.{sum_over}
use Rattle.prediction.specs.Samples.{distance}
use Rattle.weights.specs.Weights.{weight_read}
use Rattle.weights.specs.Blend.{total_weight, weighted_sum, denoised, distance_bound}
use Rattle.weights.proofs.Weights.{read_most}
use Rattle.weights.proofs.Bound.{Shared, within-bound, denoised-byte, total-limit, sum-limit}
use Rattle.laws.proofs.Each.{Each}
use Rattle.window.specs.Layout.{side_of}
use Rattle.denoiser.specs.Grid.{unit_of}
use Rattle.denoiser.specs.Window.{Scene, Window, Rule, gate, centre_at, share_of, total_at, sum_at, denoised_at}
use Rattle.denoiser.specs.Demand.{Held, Demand3, entry_at}
use Rattle.denoiser.specs.Build.{filled}
use Rattle.denoiser.proofs.Gates.{gate-most}
use Rattle.denoiser.proofs.Packs.{packed-sample}

-- what is asked of a rule: of each other frame, a displaced sample is a byte and no weight exceeds the curve's
pub record Fair {F : Type 0} (rule : Rule F) (s : Scene) (f : F) : Type 0 where
  pub byte : (k x y : ℕ) → rule.sample f k x y < 256
  pub most : (e : ℕ) → rule.weight f e ≤ weight_read s.strength e

module _ {F : Type 0} (rule : Rule F) (w : Window F) (k x y : ℕ) where
  -- a share is then at most the curve's weight of the difference
  shared : (f : F) → Fair rule w.scene f
      → Shared (weight_read w.scene.strength) (centre_at w.scene k x y) (λ g. share_of rule w.scene g k x y) (λ g. rule.sample g k x y) f
  unfolding share_of
  shared f a = record { byte = a.byte k x y; most = gate-most _ _ _ (a.most _) }

  each_shared : (fs : List F) → Each (Fair rule w.scene) fs
      → Each (Shared (weight_read w.scene.strength) (centre_at w.scene k x y) (λ g. share_of rule w.scene g k x y) (λ g. rule.sample g k x y)) fs
  each_shared [] e = tt
  each_shared (f ∷ fs) e = (shared f e.0, each_shared fs e.1)

  module _ (fair : Each (Fair rule w.scene) w.others) (byte : centre_at w.scene k x y < 256) where
    pub sample-byte : denoised_at rule w k x y < 256
    unfolding denoised_at sum_at total_at
    sample-byte = denoised-byte _ (centre_at w.scene k x y) _ _ w.others byte (each_shared w.others fair)

    pub sample_near : distance (denoised_at rule w k x y) (centre_at w.scene k x y) ≤ distance_bound (weight_read w.scene.strength) (length w.others)
    unfolding denoised_at sum_at total_at
    sample_near = within-bound _ (centre_at w.scene k x y) _ _ w.others byte (each_shared w.others fair)

    -- with at most 1023 other frames a total is at most 16,384 and a sum at most 4,177,920
    pub total-most : length w.others ≤ 1023 → total_at rule w k x y ≤ 16384
    unfolding total_at
    total-most few = total-limit _ (centre_at w.scene k x y) _ _ w.others byte (each_shared w.others fair) (read_most w.scene.strength) few

    pub sum-most : length w.others ≤ 1023 → sum_at rule w k x y ≤ 4177920
    unfolding sum_at
    sum-most few = sum-limit _ (centre_at w.scene k x y) _ _ w.others byte (each_shared w.others fair) (read_most w.scene.strength) few

  total_is : total_at rule w k x y ≡ 16 + sum_over (λ f. share_of rule w.scene f k x y) w.others
  unfolding total_at total_weight
  total_is = refl

  sum_is : sum_at rule w k x y ≡ 16 * centre_at w.scene k x y + sum_over (λ f. share_of rule w.scene f k x y * rule.sample f k x y) w.others
  unfolding sum_at weighted_sum
  sum_is = refl

  sample_is : denoised_at rule w k x y ≡ (sum_at rule w k x y + total_at rule w k x y / 2) / total_at rule w k x y
  unfolding denoised_at denoised
  sample_is = refl

  share_is : (f : F) → share_of rule w.scene f k x y
      ≡ gate (rule.accepts f (y / unit_of k) (x / unit_of k)) (rule.weight f (distance (rule.sample f k x y) (centre_at w.scene k x y)))
  unfolding share_of
  share_is f = refl

  pub total-some : 0 < total_at rule w k x y
  unfolding total_at total_weight
  total-some = omega arith

-- the three slices filled by the window's sums, totals and denoised samples meet demand 3
module _ {F : Type 0} (rule : Rule F) (w : Window F) (fair : Each (Fair rule w.scene) w.others)
    (byte : (k x y : ℕ) → centre_at w.scene k x y < 256) (old held : Held)
    (o : held.output ≡ filled w.scene (denoised_at rule w) old.output)
    (s : held.sums ≡ filled w.scene (sum_at rule w) old.sums)
    (t : held.weights ≡ filled w.scene (total_at rule w) old.weights) where
  entry_is : (f : ℕ → ℕ → ℕ → ℕ) (l before : List ℕ) → l ≡ filled w.scene f before → (k x y : ℕ) → k < 3 → x < side_of k w.scene.width → y < side_of k w.scene.height
      → entry_at w.scene l k x y ≡ f k x y
  unfolding filled
  entry_is f l before e k x y hk hx hy =
      ap (λ (v : List ℕ). entry_at w.scene v k x y) e ∙ packed-sample w.scene.width w.scene.height f _ k x y hk hx hy

  pub demand_3 : Demand3 rule w held
  unfolding Demand3
  demand_3 k x y hk hx hy =
      let eo = entry_is (denoised_at rule w) held.output old.output o k x y hk hx hy in
      let es = entry_is (sum_at rule w) held.sums old.sums s k x y hk hx hy in
      let et = entry_is (total_at rule w) held.weights old.weights t k x y hk hx hy in
      record {
        total = et ∙ total_is rule w k x y;
        sum = es ∙ sum_is rule w k x y;
        sample =
            eo ∙ sample_is rule w k x y
            ∙ sym
            (ap (λ (a : ℕ). (a + entry_at w.scene held.weights k x y / 2) / entry_at w.scene held.weights k x y) es
            ∙ ap (λ (a : ℕ). (sum_at rule w k x y + a / 2) / a) et);
        share = share_is rule w k x y;
        bound = rw eo (sample_near rule w k x y fair (byte k x y));
      }
