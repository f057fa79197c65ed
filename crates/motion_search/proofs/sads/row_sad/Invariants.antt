-- `row_sad` meets its contract. Assumes nothing.
use Rattle.std.proofs.Common.{◌≡◌, ◌*◌, ◌≤◌, get_or}
use Rattle.laws.specs.Sums.{sum_below}
use Rattle.prediction.specs.Samples.{distance}
use Rattle.motion_search.proofs.sads.row_sad.Given as goal

abbrev pub invariant-loop-k : goal.invariant-loop-k
invariant-loop-k l = (l.sum ≡ sum_below (λ i. distance (get_or l.a i 0) (get_or l.b i 0)) l.k) × (l.sum ≤ 255 * l.k)
