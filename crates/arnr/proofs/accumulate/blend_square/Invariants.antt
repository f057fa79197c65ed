-- `arnr::accumulate::blend_square` meets its contract. The loop's invariant: the first r rows of the block are added. Assumes nothing.
use Rattle.prediction.specs.Plane.{sample_at}
use Rattle.denoiser.specs.Window.{gate}
use Rattle.denoiser.specs.Internal.{Placed, between, share_by, term_by, packed_plane, block_samples}
use Rattle.arnr.proofs.accumulate.blend_square.Given as goal

abbrev pub invariant-loop-r : goal.invariant-loop-r
invariant-loop-r l = record {
  sums : Placed l.at l.p.columns l.p.rows (λ i j. gate (between l.b.y l.r j) (gate (between l.b.x l.b.columns i) (term_by l.curve.at (sample_at (packed_plane l.at l.p.columns l.p.rows l.out)) (block_samples l.block l.b.x l.b.y) i j))) l.initial.sums l.sums;
  weights : Placed l.at l.p.columns l.p.rows (λ i j. gate (between l.b.y l.r j) (gate (between l.b.x l.b.columns i) (share_by l.curve.at (sample_at (packed_plane l.at l.p.columns l.p.rows l.out)) (block_samples l.block l.b.x l.b.y) i j))) l.initial.weights l.weights;
}
