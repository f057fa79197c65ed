-- `arnr::accumulate::blend_row` meets its contract. Assumes nothing.
use Rattle.std.proofs.Common.{ap, ℕ, ◌+◌, ◌*◌, get_or, arith}
use Rattle.denoiser.specs.Internal.{row_share, row_term}
use Rattle.denoiser.proofs.Raise.{raised_none, raised_more}
use Rattle.arnr.proofs.accumulate.blend_row.Goals as goal

pub loop-k-init : goal.loop-k-init
loop-k-init c = record { sums = raised_none _ _; weights = raised_none _ _ }

pub loop-k-preserved : goal.loop-k-preserved
unfolding row_term row_share
loop-k-preserved c =
    let k = c.loop-k.k in
    let l = c.loop-k in
    record {
      sums = raised_more _ k _ c.args.sums.now l.sums (omega arith) (ap (λ (t : ℕ). get_or l.sums k 0 + t * get_or c.args.displaced.now k 0) c.share-w.ensures.0) l.invariant.sums;
      weights = raised_more _ k _ c.args.weights.now l.weights (omega arith) (ap (λ (t : ℕ). get_or l.weights k 0 + t) c.share-w.ensures.0) l.invariant.weights;
    }
