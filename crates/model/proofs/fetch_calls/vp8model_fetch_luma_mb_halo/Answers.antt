-- `vp8model_fetch_luma_mb_halo` meets its contract: the wrapped call's, as numbers. Assumes nothing.
use Rattle.std.proofs.Common.{to_z-of_z}
use Rattle.prediction.specs.declared.motion_vector.Mv.{Mv}
use Rattle.prediction.specs.Plane.{luma_plane, sample_at}
use Rattle.prediction.specs.Prediction.{halo_of, offset_by}
use Rattle.fetch.specs.Refusals.{fetch_lines}
use Rattle.numbers.proofs.Filled.{fetch_fills}
use Rattle.model.proofs.fetch_calls.vp8model_fetch_luma_mb_halo.Goals as goal

pub returns : goal.returns
returns c =
    let s = c in
    let p = luma_plane s.args.plane.now s.args.stride s.args.width s.args.height in
    let v : Mv = record { row = s.args.mv_row; col = s.args.mv_col } in
    let made = c.fill_luma_mb_halo-answer in
    let e = simp (to_z-of_z s.ranges.mv_row, to_z-of_z s.ranges.mv_col) at made.ensures in
    fetch_fills (fetch_lines p s.args.x s.args.y) (halo_of (offset_by s.args.x s.args.y v (sample_at p))) s.args.halo.now _ made.result e
    c.fetch_number.result c.fetch_number.ensures
