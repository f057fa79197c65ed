-- `arnr::accumulate::blend_half` meets its contract. Assumes nothing.
use Rattle.denoiser.specs.Internal.{packed_picture}
use Rattle.arnr.proofs.accumulate.blend_half.Goals as goal

pub returns : goal.returns
unfolding packed_picture
returns c = record {
  placed = simp (c.plane_of-q.ensures, c.offset_of-at.ensures, c.block_in-c.ensures) at c.blend_square.ensures.placed;
  placed_2 = simp (c.plane_of-q.ensures, c.offset_of-at.ensures, c.block_in-c.ensures) at c.blend_square.ensures.placed_2;
}
