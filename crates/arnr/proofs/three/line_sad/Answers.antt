-- `arnr::three::line_sad` meets its contract: a part of the block and a part of the packed plane. Assumes nothing.
use Rattle.std.proofs.Common.{arith, ap, sym, ◌≡◌, ◌∙◌, ℕ, ◌+◌, ◌*◌, ◌<◌, ◌≤◌, pos, length, get_or, drop}
use Rattle.std.proofs.Math.Nat.{add-sub_cancel_left}
use Rattle.laws.proofs.Slices.{mid_long}
use Rattle.laws.proofs.Sums.{sum_same}
use Rattle.prediction.specs.Plane.{sample_at}
use Rattle.denoiser.specs.Internal.{packed_plane, block_samples, sad_row}
use Rattle.denoiser.proofs.Halves.{square-row}
use Rattle.denoiser.proofs.Place.{apart_is}
use Rattle.denoiser.proofs.Planes.{row_below, packed-at}
use Rattle.arnr.proofs.three.line_sad.Goals as goal

pub slice_bounds-short_row_sad-end : goal.slice_bounds-short_row_sad-end
slice_bounds-short_row_sad-end c =
    let a = c.args in
    let p = a.p in
    let q = c.requires.span in
    omega (arith, c.requires.rows_in_bounds, row_below p.columns p.rows a.b.x (a.b.y + a.r) a.b.columns q.wide q.high)

pub returns : goal.returns
unfolding sad_row
returns c =
    let p = c.args.p in
    let x = c.args.b.x in
    let y = c.args.b.y + c.args.r in
    let n = c.args.b.columns in
    let at = c.args.at in
    let out = c.args.out.now in
    let block = c.args.block.now in
    let q = c.requires.span in
    let from = at + y * p.columns + x in
    let in_out : from + n ≤ length out = omega (arith, c.requires.rows_in_bounds, row_below p.columns p.rows x y n q.wide q.high) in
    let plane = sample_at (packed_plane at p.columns p.rows out) in
    let samples = block_samples block x c.args.b.y in
    let packed : (k : ℕ) → k < n → get_or out (from + k) 0 ≡ plane (pos (x + k)) (pos y)
    = λ k h. ap (λ (t : ℕ). get_or out t 0) (omega arith) ∙ sym (packed-at at p.columns p.rows out (x + k) y (omega (arith, q.wide)) q.high) in
    let row : (k : ℕ) → k < n → get_or (drop (8 * c.args.r) block) k 0 ≡ samples (pos (x + k)) (pos y) = λ k h. square-row block x c.args.b.y c.args.r k in
    let done = simp (add-sub_cancel_left, mid_long from n out in_out) at c.short_row_sad.ensures.0 in
    (done ∙ sum_same _ _ n (apart_is out out (drop (8 * c.args.r) block) plane samples from x y n packed row), c.short_row_sad.ensures.1)
