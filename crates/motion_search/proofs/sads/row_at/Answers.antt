-- `row_at` meets its contract. Assumes nothing.
use Rattle.std.proofs.Common.{refl, ◌∙◌}
use Rattle.std.proofs.Math.Nat.{add-sub_cancel_left}
use Rattle.search.proofs.Rows.{row_here}
use Rattle.motion_search.proofs.sads.row_at.Goals as goal

pub returns : goal.returns
returns c =
    let a = c.args in
    (simp add-sub_cancel_left at c.row_sad.ensures) ∙ row_here a.src.now a.plane.now a.at a.stride a.r _ _ refl refl
