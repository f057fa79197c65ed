-- `arnr::sad::edge_sad` meets its contract. Assumes nothing.
use Rattle.std.proofs.Common.{rules}
use Rattle.denoiser.specs.Internal.{luma_row}
use Rattle.arnr.proofs.sad.edge_sad.Goals as goal

pub returns : goal.returns
unfolding luma_row
returns c = c.up_to.ensures _ (λ r v h p. search rules)
