-- `refine_luma` meets its contract. Assumes nothing.
use Rattle.std.proofs.Common.{◌*◌, sym}
use Rattle.laws.proofs.Outcome.{skipped}
use Rattle.search.proofs.Checks.{lines_of}
use Rattle.search.proofs.Refine.{step_room}
use Rattle.motion_search.proofs.motion_search.refine_luma.Goals as goal

pub refine_at-requires-clause-step_bound : goal.refine_at-requires-clause-step_bound
refine_at-requires-clause-step_bound c =
    let a = c.args in
    let r = c.requires in
    let none = skipped (lines_of (2 * a.step) a.plane.now a.s a.center) tt tt (sym c.in_ok-checked.ensures) in
    (r.1, step_room a.center a.step r.0 r.1 none.1.1.1.0 none.1.1.1.1.0)
