-- `arnr::sad::row_at` meets its contract. Assumes nothing.
use Rattle.std.proofs.Common.{refl, ◌∙◌, ◌+◌, ◌*◌}
use Rattle.std.proofs.Math.Nat.{add-sub_cancel_left}
use Rattle.laws.proofs.Slices.{mid_at}
use Rattle.laws.proofs.Sums.{sum_same}
use Rattle.denoiser.specs.Internal.{row_distance}
use Rattle.arnr.proofs.sad.row_at.Goals as goal

pub returns : goal.returns
unfolding row_distance
returns g c =
    let a = c.args.a.now in
    let b = c.args.b.now in
    let i = c.args.at + c.args.r * c.args.stride in
    let j = c.args.from + c.args.r * c.args.across in
    (simp add-sub_cancel_left at c.sad.ensures.0) ∙ sum_same _ _ g.row.N (λ k h. rw (mid_at i g.row.N a k h, mid_at j g.row.N b k h) refl)
