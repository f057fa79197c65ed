-- `arnr::sad::up_to` meets its contract. Assumes nothing.
use Rattle.std.proofs.Common.{arith, refl, ◌≡◌}
use Rattle.prediction.proofs.Ceilings.{none_measured, cut_off, row_more, all_measured}
use Rattle.arnr.proofs.sad.up_to.Goals as goal

pub loop-r-init : goal.loop-r-init
loop-r-init g c = (omega arith, omega arith, λ sad is. none_measured sad _)

pub returns-then-left-measured : goal.returns-then-left-measured
returns-then-left-measured g c =
    let l = c.loop-r in
    let v = c.row-measured in λ sad is.
    cut_off sad _ l.r l.left v.result (l.invariant.2 sad is) (is l.r v.result c.loop-r-test.true v.ensures) _ _ c.loop-r-test.true c.if-left-measured.true refl

pub loop-r-preserved : goal.loop-r-preserved
loop-r-preserved g c =
    let l = c.loop-r in
    let v = c.row-measured in (
      omega (arith, c.loop-r-test.true),
      omega (arith, l.invariant.1),
      λ sad is. row_more sad _ l.r l.left v.result (l.invariant.2 sad is) (is l.r v.result c.loop-r-test.true v.ensures) c.if-left-measured.false,
    )

pub returns : goal.returns
returns g c =
    let l = c.loop-r in
    let r-is : l.r ≡ c.args.n = omega (arith, l.invariant.0) in λ sad is.
    all_measured sad _ _ l.left (rw r-is at (l.invariant.2 sad is))
