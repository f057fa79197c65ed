-- Worked samples of the bilinear rows, and the versions at their ends, by which the definitions can be told from others that resemble
-- them. Assumes nothing.
use mathlib.Core.Path.{◌≡◌, refl}
use mathlib.Core.Bool.{true, false}
use mathlib.Core.List.{[], ◌∷◌}
use Prim.Native.Nat.{ℕ, ◌+◌, ◌*◌}
use lib.ListN.{get_or}
use lib.IntN.{pos}
use Rattle.laws.specs.Signed.{above}
use Rattle.prediction.specs.Plane.{Samples}
use Rattle.prediction.specs.Filter.{products, filtered, sixtap, bilinear, rows_for}
use Rattle.prediction.specs.Prediction.{horizontal_at, vertical_at, predicted_at}
use Rattle.prediction.specs.Refusals.{bad_version}

-- a sample and the next one, filtered by the bilinear row of a selector; the samples around them are 9
abbrev between : ℕ → ℕ → ℕ → ℕ
between s x y = filtered (bilinear s) (λ k. get_or (9 ∷ 9 ∷ x ∷ y ∷ 9 ∷ 9 ∷ []) k 0)

pub row_4 : between 4 0 255 ≡ 128
unfolding bilinear products filtered
row_4 = refl

pub row_1 : between 1 255 0 ≡ 223
unfolding bilinear products filtered
row_1 = refl

pub row_7 : between 7 10 20 ≡ 19
unfolding bilinear products filtered
row_7 = refl

pub row_2 : between 2 100 104 ≡ 101
unfolding bilinear products filtered
row_2 = refl

-- samples 0 0 over 1 3 at the selectors 2 and 6: across, 0 and (96 + 32 * 3 + 64) / 128 = 2; down, (32 * 0 + 96 * 2 + 64) / 128 = 2.
-- The vertical pass first, or one rounding at the end, gives 1.
abbrev four : Samples
four x y = get_or (0 ∷ 0 ∷ 1 ∷ 3 ∷ []) (above y * 2 + above x) 0

pub both_passes : predicted_at bilinear 2 6 four (pos 0) (pos 0) ≡ 2
unfolding bilinear products filtered horizontal_at vertical_at
both_passes = refl

-- the rows of each version that is accepted
pub version_0_rows : rows_for 0 ≡ sixtap
version_0_rows = refl

pub version_1_rows : rows_for 1 ≡ bilinear
version_1_rows = refl

pub version_2_rows : rows_for 2 ≡ bilinear
version_2_rows = refl

pub version_2_legal : bad_version 2 ≡ false
version_2_legal = refl

pub version_3_refused : bad_version 3 ≡ true
version_3_refused = refl
