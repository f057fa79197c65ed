-- `arnr::sad::sad` meets its contract. Assumes nothing.
use Rattle.std.proofs.Common.{arith}
use Rattle.denoiser.specs.Internal.{row_distance}
use Rattle.laws.proofs.Sums.{sum_none, sum_more}
use Rattle.arnr.proofs.sad.sad.Goals as goal

pub loop-k-init : goal.loop-k-init
loop-k-init g c = (omega arith, sum_none _, omega arith)

pub loop-k-preserved : goal.loop-k-preserved
unfolding row_distance
loop-k-preserved g c =
    let l = c.loop-k in
    (omega (arith, c.loop-k-test.true), sum_more _ l.k c.abs_diff.result l.sum l.invariant.1 c.abs_diff.ensures, omega arith)
