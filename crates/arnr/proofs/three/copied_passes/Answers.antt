-- `arnr::three::copied_passes` meets its contract: the plane is measured up to 13 times its area. Assumes nothing.
use Rattle.std.proofs.Common.{arith}
use Rattle.denoiser.specs.Grid.{block_in}
use Rattle.denoiser.specs.Pictures.{picture_of}
use Rattle.denoiser.specs.Internal.{packed_picture}
use Rattle.denoiser.proofs.Passes.{ceiled_passes}
use Rattle.arnr.proofs.three.copied_passes.Goals as goal

pub offset_of-at-requires : goal.offset_of-at-requires
offset_of-at-requires c = let f = c.requires.k_bound.1.fits 0 (omega arith) in (c.requires.k_bound.0, f.wide.1, f.high.1)

pub returns : goal.returns
unfolding packed_picture picture_of
returns c =
    let done = simp (c.plane_of-p.ensures, c.offset_of-at.ensures, c.block_in-c.ensures, c.displacement_in-e.ensures.0, c.limit-ceiling.ensures) at c.copied_sad-read.ensures in
    simp (c.limit-ceiling.ensures, c.block_in-c.ensures) (ceiled_passes _ _ (block_in c.args.k c.args.b) _ done)
