-- RFC 6386 section 18.3: one filtered sample, over any row of taps; the six-tap and the bilinear rows. Assumes nothing.
use Rattle.std.specs.Prelude.{cond, List, [], ◌∷◌, ℕ, zero, suc, ◌-◌, ◌*◌, eqb, get_or, ℤ, pos, ◌+ℤ◌, ◌*ℤ◌}
use Rattle.prediction.specs.Samples.{clamped255}
use Rattle.prediction.specs.declared.motion_comp.FilterSet.{FilterSet}
use Rattle.prediction.specs.declared.motion_comp.FilterSet.TheVariants.{Sixtap, Bilinear}
use Rattle.laws.specs.Signed.{minus, floor_div}

-- the sum of the first n products of a tap and a sample
unfoldable pub products : (ℕ → ℤ) → (ℕ → ℕ) → ℕ → ℤ
products tap sample zero = pos 0
products tap sample (suc n) = products tap sample n +ℤ tap n *ℤ pos (sample n)

-- six products, plus 64, divided by 128 rounding down, clamped to 0..255
unfoldable pub filtered : (ℕ → ℤ) → (ℕ → ℕ) → ℕ
filtered tap sample = clamped255 (floor_div (products tap sample 6 +ℤ pos 64) 128)

-- a filter set: the tap k of each selector
abbrev pub FilterRows : Type 0
FilterRows = ℕ → ℕ → ℤ

-- the six-tap rows for the selectors 0 to 7
unfoldable pub sixtap_rows : List (List ℤ)
sixtap_rows =
    (pos 0 ∷ pos 0 ∷ pos 128 ∷ pos 0 ∷ pos 0 ∷ pos 0 ∷ []) ∷
    (pos 0 ∷ minus 6 ∷ pos 123 ∷ pos 12 ∷ minus 1 ∷ pos 0 ∷ []) ∷
    (pos 2 ∷ minus 11 ∷ pos 108 ∷ pos 36 ∷ minus 8 ∷ pos 1 ∷ []) ∷
    (pos 0 ∷ minus 9 ∷ pos 93 ∷ pos 50 ∷ minus 6 ∷ pos 0 ∷ []) ∷
    (pos 3 ∷ minus 16 ∷ pos 77 ∷ pos 77 ∷ minus 16 ∷ pos 3 ∷ []) ∷
    (pos 0 ∷ minus 6 ∷ pos 50 ∷ pos 93 ∷ minus 9 ∷ pos 0 ∷ []) ∷
    (pos 1 ∷ minus 8 ∷ pos 36 ∷ pos 108 ∷ minus 11 ∷ pos 2 ∷ []) ∷
    (pos 0 ∷ minus 1 ∷ pos 12 ∷ pos 123 ∷ minus 6 ∷ pos 0 ∷ []) ∷
    []

unfoldable pub sixtap : FilterRows
sixtap selector k = get_or (get_or sixtap_rows selector []) k (pos 0)

-- the bilinear rows for the selectors 0 to 7: 128 - 16s on the sample and 16s on the next one, the third and the fourth of six
unfoldable pub bilinear : FilterRows
bilinear selector k = cond (eqb k 2) (pos (128 - 16 * selector)) (cond (eqb k 3) (pos (16 * selector)) (pos 0))

-- the filter set of a version: six-tap for 0, bilinear for 1 to 255
abbrev pub filter_set_of : ℕ → FilterSet
filter_set_of zero = Sixtap
filter_set_of (suc version) = Bilinear

-- the rows of a filter set, and so of a version
abbrev pub taps_of : FilterSet → FilterRows
taps_of Sixtap = sixtap
taps_of Bilinear = bilinear

abbrev pub rows_for : ℕ → FilterRows
rows_for version = taps_of (filter_set_of version)
