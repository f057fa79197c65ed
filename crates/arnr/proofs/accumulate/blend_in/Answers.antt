use Rattle.denoiser.specs.Pictures.{picture_of}
use Rattle.denoiser.specs.Internal.{packed_picture}
use Rattle.std.proofs.Common.{arith}
use Rattle.arnr.proofs.accumulate.blend_in.Goals as goal

pub offset_of-at-requires : goal.offset_of-at-requires
offset_of-at-requires c = let f = c.requires.k_bound.1.fits 0 (omega arith) in (c.requires.k_bound.0, f.wide.1, f.high.1)

pub returns : goal.returns
unfolding packed_picture picture_of
returns c = record {
  placed = simp (c.plane_of-p.ensures, c.offset_of-at.ensures, c.block_in-c.ensures, c.displacement_in-e.ensures.0) at c.blend_block.ensures.placed;
  placed_2 = simp (c.plane_of-p.ensures, c.offset_of-at.ensures, c.block_in-c.ensures, c.displacement_in-e.ensures.0) at c.blend_block.ensures.placed_2;
}
