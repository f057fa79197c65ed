-- `arnr::accumulate::motion_at` meets its contract. Assumes nothing.
use Rattle.denoiser.specs.Window.{cost_of, displacement_of}
use Rattle.denoiser.specs.Pictures.{picture_of}
use Rattle.denoiser.specs.Internal.{luma_cost, packed_scene, packed_picture}
use Rattle.arnr.proofs.accumulate.motion_at.Goals as goal

pub returns : goal.returns
unfolding luma_cost cost_of displacement_of packed_scene packed_picture picture_of
returns c = simp (c.plane_of-p.ensures, c.grid_block-b.ensures) at c.block_search.ensures
