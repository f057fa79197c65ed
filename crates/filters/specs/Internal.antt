-- What the private functions of the filters promise each other, over any filter set. No public contract uses these definitions. Assumes nothing.
use Rattle.std.specs.Prelude.{List, [], ◌∷◌, ℕ, ◌+◌, ◌*◌, ◌/◌, ◌%◌, get_or}
use Rattle.prediction.specs.Filter.{FilterRows, filtered}

-- six samples, the first at `at`, each `step` past the one before
abbrev pub window : List ℕ → ℕ → ℕ → List ℕ
window xs at step =
    get_or xs at 0 ∷
    get_or xs (at + step) 0 ∷
    get_or xs (at + 2 * step) 0 ∷
    get_or xs (at + 3 * step) 0 ∷
    get_or xs (at + 4 * step) 0 ∷
    get_or xs (at + 5 * step) 0 ∷ []

-- a filtered sample from six samples in a list
unfoldable pub filtered_list : FilterRows → ℕ → List ℕ → ℕ
filtered_list set s w = filtered (set s) (λ k. get_or w k 0)

-- sample i of either pass: 21 rows of 16 from a halo, 16 rows of 16 from those
abbrev pub across_of : FilterRows → ℕ → List ℕ → ℕ → ℕ
across_of set mx halo i = filtered_list set mx (window halo (i / 16 * 21 + i % 16) 1)

abbrev pub down_of : FilterRows → ℕ → List ℕ → ℕ → ℕ
down_of set my rows i = filtered_list set my (window rows i 16)

-- the same for a set with two taps: the rows 2 to 18 of the 21 alone, and the vertical pass over those, from a sample and the one below it
abbrev pub inner_across : FilterRows → ℕ → List ℕ → ℕ → ℕ
inner_across set mx halo i = across_of set mx halo (i + 32)

abbrev pub pair_of : List ℕ → ℕ → List ℕ
pair_of rows i = 0 ∷ 0 ∷ get_or rows i 0 ∷ get_or rows (i + 16) 0 ∷ 0 ∷ 0 ∷ []

abbrev pub inner_down : FilterRows → ℕ → List ℕ → ℕ → ℕ
inner_down set my rows i = filtered_list set my (pair_of rows i)
