-- `block_sad` meets its contract. Assumes nothing.
use Rattle.prediction.proofs.Ceilings.{same_rows}
use Rattle.search.proofs.Rows.{row-packed}
use Rattle.motion_search.proofs.sads.block_sad.Goals as goal

pub returns : goal.returns
returns c = rw c.parted.ensures (same_rows _ _ 16 _ _ (λ j h. row-packed _ _ j) c.rows_up_to.ensures.0)
