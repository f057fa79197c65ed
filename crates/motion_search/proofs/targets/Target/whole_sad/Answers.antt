-- `whole_sad` meets its contract. Assumes nothing.
use Rattle.std.proofs.Common.{arith}
use Rattle.prediction.specs.Vector.{stored_mv}
use Rattle.prediction.specs.Filter.{sixtap}
use Rattle.prediction.proofs.Ceilings.{same_rows}
use Rattle.sixtap.proofs.Sizes.{sixtap-whole}
use Rattle.search.proofs.SadLaws.{copied_is}
use Rattle.motion_search.proofs.targets.Target.whole_sad.Goals as goal

-- what is measured of the copied block is measured of the prediction
pub returns-in-Some : goal.returns-in-Some
returns-in-Some c =
    let a = c.args in
    let t = a.self.now in
    rw c.parted.ensures
    (rw (copied_is sixtap sixtap-whole t.plane.now t.site (stored_mv a.mv) c.requires.row c.requires.col (λ k. omega (arith, t.plane_bytes k)))
    at (rw c.stored_luma_mv.ensures at (same_rows _ _ 16 _ _ (c.in-Some.ensures.row t.src.now) c.rows_up_to-both.ensures.0)))
