-- `mb_luma_sad_at_whole_mv` meets its contract. Assumes nothing.
use Rattle.std.proofs.Common.{sym}
use Rattle.laws.proofs.Outcome.{skipped}
use Rattle.search.proofs.Checks.{site, lines_of}
use Rattle.search.proofs.Grid.{measured-whole, whole_copied}
use Rattle.motion_search.proofs.motion_search.mb_luma_sad_at_whole_mv.Goals as goal

pub uncut_whole_sad-requires : goal.uncut_whole_sad-requires
uncut_whole_sad-requires c =
    let a = c.args in
    let s = site a.stride a.width a.height a.mb_col a.mb_row in
    let none = skipped (lines_of 4 a.plane.now s a.mv) tt tt (sym c.in_ok-checked.ensures) in
    whole_copied a.mv (measured-whole a.mv none.1.1.1.0 none.1.1.1.1.0)
