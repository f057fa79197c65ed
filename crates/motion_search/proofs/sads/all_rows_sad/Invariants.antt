-- `all_rows_sad` meets its contract. Assumes nothing.
use Rattle.std.proofs.Common.{◌≡◌, ◌*◌, ◌≤◌}
use Rattle.laws.specs.Sums.{sum_below}
use Rattle.prediction.specs.Internal.{row_apart}
use Rattle.motion_search.proofs.sads.all_rows_sad.Given as goal

abbrev pub invariant-loop-pair : goal.invariant-loop-pair
invariant-loop-pair l =
    (l.sum ≡ sum_below (row_apart l.src 0 16 l.plane l.at l.stride) (l.pair * 2)) × (l.sum ≤ 8160 * l.pair)
