-- `uncut_block_sad` meets its contract. Assumes nothing.
use Rattle.std.proofs.Common.{sym, ◌∙◌}
use Rattle.laws.proofs.Sums.{sum_same}
use Rattle.search.proofs.Rows.{sad-rows, row-packed}
use Rattle.motion_search.proofs.sads.uncut_block_sad.Goals as goal

pub returns : goal.returns
returns c = c.all_rows_sad.ensures.0 ∙ sum_same _ _ 16 (λ j h. row-packed _ _ j) ∙ sym (sad-rows _ _)
