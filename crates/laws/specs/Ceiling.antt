-- A sum over rows that is held against a ceiling after each row; over any row sums. Assumes nothing.
use Rattle.std.specs.Prelude.{Bool, ℕ, ◌+◌, min, leb}
use Rattle.laws.specs.Sums.{sum_below}
use Rattle.laws.specs.First.{first_below}

-- with row k the sum is the ceiling or more
abbrev pub reached : (ℕ → ℕ) → ℕ → ℕ → Bool
reached row ceiling k = leb ceiling (sum_below row (k + 1))

-- how many of n rows are measured: up to the first that brings the sum to the ceiling or past it; n where none does
unfoldable pub rows_measured : (ℕ → ℕ) → ℕ → ℕ → ℕ
rows_measured row n ceiling = min (first_below (reached row ceiling) n + 1) n

-- the value: the sum of n rows, or the ceiling where that is less
unfoldable pub sum_up_to : (ℕ → ℕ) → ℕ → ℕ → ℕ
sum_up_to row n ceiling = min (sum_below row n) ceiling
