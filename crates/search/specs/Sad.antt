-- The sum of absolute differences (SAD) of a macroblock. Assumes nothing.
use Rattle.std.specs.Prelude.{List, ℕ, ◌+◌, ◌*◌, get_or}
use Rattle.laws.specs.Sums.{sum_below}
use Rattle.prediction.specs.declared.motion_vector.Mv.{Mv}
use Rattle.prediction.specs.Samples.{distance}
use Rattle.prediction.specs.Vector.{stored_mv}
use Rattle.prediction.specs.Plane.{Plane, sample_at}
use Rattle.prediction.specs.Filter.{FilterRows, sixtap}
use Rattle.prediction.specs.Prediction.{predicted_mb}

-- the SAD of two blocks of 16 by 16 samples
unfoldable pub sad16 : List ℕ → List ℕ → ℕ
sad16 src block = sum_below (λ i. distance (get_or src i 0) (get_or block i 0)) 256

-- the SAD of row j of two blocks of 16 by 16 samples
unfoldable pub row_sad : List ℕ → List ℕ → ℕ → ℕ
row_sad src block j = sum_below (λ k. distance (get_or src (j * 16 + k) 0) (get_or block (j * 16 + k) 0)) 16

-- the SAD of a source block and its prediction by a filter set at a vector in quarter pixels, for the macroblock at a column and a row
unfoldable pub cost_in : FilterRows → Plane → ℕ → ℕ → List ℕ → Mv → ℕ
cost_in set plane column row src v = sad16 src (predicted_mb set (sample_at plane) (16 * column) (16 * row) (stored_mv v))

-- by the six-tap rows
abbrev pub cost_of : Plane → ℕ → ℕ → List ℕ → Mv → ℕ
cost_of = cost_in sixtap
