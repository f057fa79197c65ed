use Rattle.std.proofs.Common.{◌≡◌, ap, ◌∙◌, sym, ℕ, ◌+◌, ◌*◌, ◌≤◌, ◌<◌, length, get_or, pos, arith}
use Rattle.prediction.specs.Plane.{sample_at}
use Rattle.denoiser.specs.Search.{displaced_by}
use Rattle.denoiser.specs.Internal.{plane_in, packed_plane}
use Rattle.denoiser.proofs.Planes.{row_below, luma_at}
use Rattle.std.proofs.Math.Nat.{add-sub_cancel_left}
use Rattle.laws.proofs.Slices.{mid_long}
use Rattle.denoiser.proofs.Place.{apart_is}
use Rattle.laws.proofs.Sums.{sum_same}
use Rattle.arnr.proofs.sad.span_sad.Goals as goal

pub returns : goal.returns
returns c =
    let in_centre : c.args.y * c.args.p.columns + c.args.x + c.args.n ≤ length c.args.centre.now = omega (arith, row_below c.args.p.columns c.args.p.rows c.args.x c.args.y c.args.n c.requires.span.wide c.requires.span.high, c.requires.rows_in_bounds) in
    let p = c.args.p in
    let x = c.args.x in
    let y = c.args.y in
    let n = c.args.n in
    let centre = c.args.centre.now in
    let from = y * p.columns + x in
    let plane = sample_at (packed_plane 0 p.columns p.rows centre) in
    let moved = displaced_by c.args.d (sample_at (plane_in c.args.bytes.now p)) in
    let packed : (k : ℕ) → k < n → get_or centre (from + k) 0 ≡ sample_at (packed_plane 0 p.columns p.rows centre) (pos (x + k)) (pos y)
    = λ k h. ap (λ (t : ℕ). get_or centre t 0) (omega arith) ∙ sym (luma_at p.columns p.rows centre (x + k) y (omega (arith, c.requires.span.wide)) c.requires.span.high) in
    let done = simp (add-sub_cancel_left, mid_long from n centre in_centre) at c.row_sad.ensures.0 in
    (done ∙ sum_same _ _ n (apart_is centre centre _ plane moved from x y n packed c.displaced_row-row.ensures), c.row_sad.ensures.1)
