-- The bilinear set: a sample by eighths, and what the laws over any filter set ask of it. Assumes nothing.
use Rattle.std.proofs.Common.{List, ◌≡◌, refl, sym, ap, ◌∙◌, ℕ, ◌+◌, ◌-◌, ◌*◌, ◌/◌, ◌≤◌, ◌<◌, min, max, mul_assoc, mul-le-mul, add-mul, arith, get_or, pos, ◌+ℤ◌}
use Rattle.laws.specs.Signed.{floor_div}
use Rattle.prediction.specs.Filter.{products, filtered, bilinear}
use Rattle.filters.specs.Sets.{Identity, TwoTaps}
use Rattle.filters.specs.Internal.{filtered_list}
use Rattle.bilinear.specs.Internal.{mean_of}

-- the paper's products are 16 times those of eighths
sample_16 : (s x : ℕ) → s ≤ 8 → (128 - 16 * s) * x ≡ 16 * ((8 - s) * x)
sample_16 s x h =
    let e : 128 - 16 * s ≡ 16 * (8 - s) = omega arith in
    rw e (mul_assoc 16 (8 - s) x)

next_16 : (s y : ℕ) → 16 * s * y ≡ 16 * (s * y)
next_16 s y = mul_assoc 16 s y

pub mean_law : (s : ℕ) (sample : ℕ → ℕ) → s ≤ 8 → mean_of s (sample 2) (sample 3) ≡ filtered (bilinear s) sample
unfolding mean_of bilinear products filtered
mean_law s sample h = omega (arith, sample_16 s (sample 2) h, next_16 s (sample 3))

-- eighths of two samples lie between them
module _ (s x y : ℕ) (h : s ≤ 8) where
  of_eight : (n : ℕ) → (8 - s) * n + s * n ≡ 8 * n
  of_eight n =
      let e : 8 - s + s ≡ 8 = omega arith in
      rw e at (sym (add-mul (8 - s) s n))

  pub not-less : min x y ≤ ((8 - s) * x + s * y + 4) / 8
  not-less =
      let a : (8 - s) * min x y ≤ (8 - s) * x = mul-le-mul {n₂ = 8 - s} {m₂ = x} (omega arith) (omega arith) in
      let b : s * min x y ≤ s * y = mul-le-mul {n₂ = s} {m₂ = y} (omega arith) (omega arith) in
      omega (arith, of_eight (min x y))

  pub not_greater : ((8 - s) * x + s * y + 4) / 8 ≤ max x y
  not_greater =
      let a : (8 - s) * x ≤ (8 - s) * max x y = mul-le-mul {n₂ = 8 - s} {m₂ = max x y} (omega arith) (omega arith) in
      let b : s * y ≤ s * max x y = mul-le-mul {n₂ = s} {m₂ = max x y} (omega arith) (omega arith) in
      omega (arith, of_eight (max x y))

-- a bilinear sample: the two samples by eighths, between the lesser and the greater of them, and never clamped
pub record Mean (s : ℕ) (sample : ℕ → ℕ) : Type 0 where
  pub eighths : filtered (bilinear s) sample ≡ ((8 - s) * sample 2 + s * sample 3 + 4) / 8
  pub least : min (sample 2) (sample 3) ≤ filtered (bilinear s) sample
  pub most : filtered (bilinear s) sample ≤ max (sample 2) (sample 3)
  pub unclamped : pos (filtered (bilinear s) sample) ≡ floor_div (products (bilinear s) sample 6 +ℤ pos 64) 128

pub bilinear_mean : (s : ℕ) (sample : ℕ → ℕ) → s ≤ 7 → sample 2 < 256 → sample 3 < 256 → Mean s sample
unfolding mean_of bilinear products filtered
bilinear_mean s sample h p q =
    let lo = not-less s (sample 2) (sample 3) (omega arith) in
    let hi = not_greater s (sample 2) (sample 3) (omega arith) in
    let e : filtered (bilinear s) sample ≡ ((8 - s) * sample 2 + s * sample 3 + 4) / 8 = sym (mean_law s sample (omega arith)) ∙ omega arith in
    record { eighths = e; least = omega arith; most = omega arith; unclamped = ap pos (e ∙ omega (arith, sample_16 s (sample 2) (omega arith), next_16 s (sample 3))) }

-- row 0 is the identity
pub bilinear-whole : Identity bilinear
unfolding bilinear products filtered
bilinear-whole = record { kept = λ sample. omega arith }

-- two taps
pub bilinear-two : TwoTaps bilinear
unfolding bilinear
bilinear-two = record { first = λ s. refl; second = λ s. refl; fifth = λ s. refl; sixth = λ s. refl }

-- a sample of either pass by eighths, from six samples in a list
pub mean_list : (s : ℕ) (w : List ℕ) → s ≤ 7 → mean_of s (get_or w 2 0) (get_or w 3 0) ≡ filtered_list bilinear s w
unfolding filtered_list
mean_list s w h = mean_law s (λ k. get_or w k 0) (omega arith)
