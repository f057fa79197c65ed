-- `fill_square` meets its contract: accepted, the array is the square at the vector's whole offset. Assumes nothing.
use Rattle.std.proofs.Common.{ℤ, ◌+◌, ◌∙◌, ap, rules, to_z-of_z, SFits, w16, pos, ◌-ℤ◌}
use Rattle.prediction.specs.Plane.{luma_plane, sample_at}
use Rattle.prediction.specs.Prediction.{square_of, offset_by}
use Rattle.fetch.specs.Refusals.{fetch_lines}
use Rattle.fetch.proofs.Squares.{square_is, fill_accepted, biased_by}
use Rattle.fetch.proofs.fill_square.Goals as goal

pub returns : goal.returns
returns g c =
    let s = c.args in
    let fr : SFits w16 s.mv.row = search rules in
    let fc : SFits w16 s.mv.col = search rules in
    let p = luma_plane s.plane.now s.stride s.width s.height in
    let from = pos 0 -ℤ pos s.margin in
    let ec = c.moved.ensures.0 ∙ ap (λ (z : ℤ). s.x + biased_by z) (to_z-of_z fc) in
    let er = c.moved-2.ensures.0 ∙ ap (λ (z : ℤ). s.y + biased_by z) (to_z-of_z fr) in
    fill_accepted (fetch_lines p s.x s.y) (square_of g.row.N from from (offset_by s.x s.y s.mv (sample_at p))) c.in_ok-check_fetch.ensures.decides
    s.out.now c.fill.new.out
    (c.fill.ensures ∙ square_is g.row.N s.margin p s.x s.y _ _ s.mv fr fc ec er)
