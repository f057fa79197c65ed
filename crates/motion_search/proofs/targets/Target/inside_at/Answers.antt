-- `inside_at` meets its contract. Assumes nothing.
use Rattle.std.proofs.Common.{FitsSigned, w16, rules}
use Rattle.std.proofs.lemmas.Int.{to_z-of_z}
use Rattle.search.proofs.Accepted.{placed}
use Rattle.search.proofs.SadLaws.{row_inside, ends-inside}
use Rattle.motion_search.proofs.targets.Target.inside_at.Goals as goal

pub returns-then-lies_inside-2 : goal.returns-then-lies_inside-2
returns-then-lies_inside-2 c =
    let a = c.args in
    let t = a.self.now in
    let wide = c.lies_inside.ensures c.if-lies_inside.true in
    let high = c.lies_inside-then-lies_inside.ensures c.if-lies_inside-2.true in
    let fc : FitsSigned w16 a.eighths.col = search rules in
    let fr : FitsSigned w16 a.eighths.row = search rules in
    record {
      ends = ends-inside t.plane.now t.site _ _ wide high (placed _ _ _ t.ready).long;
      row =
          λ src j h. row_inside t.plane.now t.site src a.eighths _ _
          (rw (to_z-of_z w16 a.eighths.col fc) at c.displaced-left.ensures.0) (rw (to_z-of_z w16 a.eighths.row fr) at c.displaced-top.ensures.0) wide high j h;
    }
