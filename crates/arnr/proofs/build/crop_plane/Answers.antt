-- `arnr::build::crop_plane` meets its contract. The loop's invariant: the first r rows are copied. Assumes nothing.
use Rattle.std.proofs.Common.{◌≡◌, sym, ◌∙◌, ℕ, ◌+◌, ◌-◌, ◌*◌, ◌≤◌, ◌<◌, length, get_or, arith, pos}
use native.Mathlib.Nat.{add-sub_cancel_left}
use Rattle.laws.proofs.Slices.{mid_at, mid_long}
use Rattle.prediction.specs.Plane.{sample_at}
use Rattle.denoiser.specs.Internal.{plane_in}
use Rattle.denoiser.proofs.Fronts.{stored_more}
use Rattle.prediction.proofs.Edges.{inside}
use Rattle.denoiser.proofs.Planes.{sample-below}
use Rattle.arnr.proofs.build.crop_plane.Goals as goal

pub loop-r-preserved : goal.loop-r-preserved
loop-r-preserved c =
    let p = c.args.p in
    let l = c.loop-r in
    let less = c.loop-r-test.true in
    let bytes = c.args.bytes.now in
    let fits = c.requires.fits in
    let from = p.start + l.r * p.stride in
    let in_bytes : from + p.columns ≤ length bytes = omega (arith, sample-below bytes p fits (p.columns - 1) l.r (omega (arith, fits.wide)) less, fits.wide) in
    let done = simp add-sub_cancel_left at c.copy_row.ensures in
    let row : (x : ℕ) → x < p.columns → get_or c.copy_row.new.to x 0 ≡ sample_at (plane_in bytes p) (pos x) (pos l.r)
    = λ x h. rw done (mid_at from p.columns bytes x h) ∙ sym (inside (plane_in bytes p) x l.r h less) in
    simp add-sub_cancel_left
    (stored_more c.args.at p.columns p.rows (λ x y. sample_at (plane_in bytes p) (pos x) (pos y)) c.args.out.now l.out c.copy_row.new.to c.requires.rows_in_bounds l.r less l.invariant
    (rw done (mid_long from p.columns bytes in_bytes)) row)
