-- `row_sad` meets its contract. Assumes nothing.
use Rattle.std.proofs.Common.{arith, rules}
use Rattle.laws.proofs.Sums.{sum_none, sum_more}
use Rattle.motion_search.proofs.sads.row_sad.Goals as goal

pub loop-k-init : goal.loop-k-init
loop-k-init c = (sum_none _, search rules)

pub loop-k-preserved : goal.loop-k-preserved
loop-k-preserved c =
    let l = c.loop-k in
    (sum_more _ l.k c.abs_diff.result l.sum l.invariant.0 c.abs_diff.ensures, omega (arith, c.abs_diff.type_inv))
