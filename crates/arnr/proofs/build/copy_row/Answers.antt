-- `arnr::build::copy_row` meets its contract. Assumes nothing.
use Rattle.std.proofs.Common.{refl, arith, length-set}
use lib.Seq.{ext_get_or}
use Rattle.denoiser.proofs.Raise.{filled_more}
use Rattle.arnr.proofs.build.copy_row.Goals as goal

pub loop-k-preserved : goal.loop-k-preserved
loop-k-preserved c =
    let l = c.loop-k in
    (simp length-set l.invariant.0, filled_more _ l.to l.k _ (omega arith) refl l.invariant.1)

pub returns : goal.returns
returns c = let i = c.loop-k.invariant in ext_get_or 0 _ _ i.0 (λ j h. i.1 j (omega arith))
