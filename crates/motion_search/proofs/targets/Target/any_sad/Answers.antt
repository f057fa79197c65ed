-- `any_sad` meets its contract. Assumes nothing.
use Rattle.std.proofs.Common.{arith, rules}
use Rattle.prediction.specs.Vector.{stored_mv}
use Rattle.prediction.specs.Filter.{taps_of}
use Rattle.prediction.specs.Ceiled.{CeiledIs}
use Rattle.search.specs.Sad.{row_sad}
use Rattle.search.specs.Internal.{copied_at}
use Rattle.search.proofs.SadLaws.{copied_is}
use Rattle.search.proofs.Versions.{taps_whole}
use Rattle.motion_search.proofs.Fractions.{no_fractions}
use Rattle.motion_search.proofs.targets.Target.any_sad.Goals as goal

-- without fractions the block is copied
pub returns-then-fraction-eq0-2 : goal.returns-then-fraction-eq0-2
returns-then-fraction-eq0-2 c =
    let a = c.args in
    let t = a.self.now in
    let e = c.stored_luma_mv-eighths in
    let none = no_fractions a.mv e.result _ _ e.ensures (search rules) (search rules) c.fraction-then-fraction-eq0.ensures c.if-fraction-eq0-2.true c.fraction.ensures c.if-fraction-eq0.true in
    let read : CeiledIs (row_sad t.src.now (copied_at t.plane.now t.site e.result)) 16 a.ceiling c.measured_copy.result = search rules in
    rw (copied_is (taps_of a.set) (taps_whole a.set) t.plane.now t.site (stored_mv a.mv) none.row none.col (λ k. omega (arith, t.plane_bytes k)))
    at (rw e.ensures at read)
