-- `arnr::three::filtered_passes` meets its contract: the block is measured up to 13 times the area that it covers. Assumes nothing.
use Rattle.denoiser.specs.Grid.{block_in}
use Rattle.denoiser.specs.Internal.{packed_picture}
use Rattle.denoiser.proofs.Passes.{ceiled_passes}
use Rattle.arnr.proofs.three.filtered_passes.Goals as goal

pub returns : goal.returns
unfolding packed_picture
returns c =
    let done = simp (c.plane_of-p.ensures, c.offset_of-at.ensures, c.block_in-covered.ensures, c.limit-most.ensures) at c.filtered_sad-read.ensures in
    simp (c.limit-most.ensures, c.block_in-covered.ensures) (ceiled_passes _ _ (block_in c.args.k c.args.b) _ done)
