-- `arnr::accumulate::blend_row` meets its contract. The loop's invariant: the first k samples are added. Assumes nothing.
use Rattle.denoiser.specs.Internal.{Raised, row_share, row_term}
use Rattle.arnr.proofs.accumulate.blend_row.Given as goal

abbrev pub invariant-loop-k : goal.invariant-loop-k
invariant-loop-k l = record {
  sums : Raised (row_term l.curve.at l.centre l.displaced) l.k l.initial.sums l.sums;
  weights : Raised (row_share l.curve.at l.centre l.displaced) l.k l.initial.weights l.weights;
}
