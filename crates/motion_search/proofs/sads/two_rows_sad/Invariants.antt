-- `two_rows_sad` meets its contract. Assumes nothing.
use Rattle.std.proofs.Common.{◌≡◌, ◌*◌, ◌≤◌}
use Rattle.laws.specs.Sums.{sum_below}
use Rattle.search.specs.Internal.{two_apart}
use Rattle.motion_search.proofs.sads.two_rows_sad.Given as goal

abbrev pub invariant-loop-k : goal.invariant-loop-k
invariant-loop-k l = (l.sum ≡ sum_below (two_apart l.a l.b l.c) l.k) × (l.sum ≤ 510 * l.k)
