-- What every function that measures a block up to a ceiling promises, over any row sums. Assumes nothing.
use Rattle.std.specs.Prelude.{◌≡◌, ℕ}
use Rattle.laws.specs.Ceiling.{sum_up_to, rows_measured}
use Rattle.prediction.specs.declared.ceiling.Ceiled.{Ceiled}

-- of n rows, up to the ceiling: the value, and how many of them were measured
pub record CeiledIs (row : ℕ → ℕ) (n ceiling : ℕ) (r : Ceiled) : Type 0 where
  pub sad : r.sad ≡ sum_up_to row n ceiling
  pub rows : r.rows ≡ rows_measured row n ceiling
