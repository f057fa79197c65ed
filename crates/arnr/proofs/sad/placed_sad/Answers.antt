-- `arnr::sad::placed_sad` meets its contract. Assumes nothing.
use Rattle.std.proofs.Common.{rules}
use Rattle.prediction.specs.Internal.{row_apart}
use Rattle.arnr.proofs.sad.placed_sad.Goals as goal

pub returns : goal.returns
unfolding row_apart
returns c = c.up_to.ensures _ (λ r v h p. search rules)
