-- `arnr::accumulate::blend_span` meets its contract: a row that is raised as a part of each slice. Assumes nothing.
use Rattle.std.proofs.Common.{◌≡◌, ap, ◌∙◌, sym, ℕ, ◌+◌, ◌*◌, ◌≤◌, ◌<◌, length, get_or, arith}
use native.Mathlib.Nat.{add-sub_cancel_left}
use Rattle.std.proofs.Math.Seq.{take-length}
use Rattle.std.specs.Prelude.{pos}
use Rattle.laws.proofs.Slices.{mid_long}
use Rattle.prediction.specs.Plane.{sample_at}
use Rattle.denoiser.specs.Internal.{packed_plane}
use Rattle.denoiser.proofs.Place.{placed_span, share_is, term_is}
use Rattle.denoiser.proofs.Planes.{row_below, packed-at}
use Rattle.arnr.proofs.accumulate.blend_span.Goals as goal

pub returns : goal.returns
returns c =
    let p = c.args.p in
    let x = c.args.x in
    let y = c.args.y in
    let at = c.args.at in
    let curve = c.args.curve.now.at in
    let out = c.args.out.now in
    let row = c.args.row.now in
    let n = length row in
    let q = c.requires.span in
    let from = at + y * p.columns + x in
    let plane = sample_at (packed_plane at p.columns p.rows out) in
    let in_out : from + n ≤ length out = omega (arith, row_below p.columns p.rows x y n q.wide q.high, c.requires.lent.in_out) in
    let packed : (k : ℕ) → k < n → get_or out (from + k) 0 ≡ plane (pos (x + k)) (pos y)
    = λ k h. ap (λ (t : ℕ). get_or out t 0) (omega arith) ∙ sym (packed-at at p.columns p.rows out (x + k) y (omega (arith, q.wide)) q.high) in
    let done = simp (add-sub_cancel_left, mid_long from n out in_out) at c.blend_row.ensures in
    record {
      placed = λ s is. simp add-sub_cancel_left (placed_span at p.columns p.rows c.args.sums.now _ c.requires.lent.in_sums x y n q.wide q.high _ _
          (rw (take-length row) at (term_is curve out row plane s from x y n packed is)) done.raised);
      placed_2 = λ s is. simp add-sub_cancel_left (placed_span at p.columns p.rows c.args.weights.now _ c.requires.lent.in_weights x y n q.wide q.high _ _
          (rw (take-length row) at (share_is curve out row plane s from x y n packed is)) done.raised_2);
    }
