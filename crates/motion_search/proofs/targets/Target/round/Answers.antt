-- `round` meets its contract. Assumes nothing.
use Rattle.std.proofs.Common.{◌≡◌, w16, to_z, of_z, ◌∙◌, arith}
use Rattle.laws.proofs.Signed.{back}
use Rattle.search.specs.Internal.{step_at}
use Rattle.search.proofs.Steps.{trying_none, trying_more, trying_all}
use Rattle.motion_search.proofs.targets.Target.round.Goals as goal

pub loop-k-init : goal.loop-k-init
loop-k-init c = trying_none _ _ c.requires.good

pub loop-k-preserved : goal.loop-k-preserved
loop-k-preserved c =
    let down : to_z w16 (of_z w16 c.step_at.result) ≡ step_at 0 c.loop-k.k = back w16 c.step_at.result c.step_at.type_inv ∙ c.step_at.ensures in
    let right : to_z w16 (of_z w16 c.step_at-in-loop-k.result) ≡ step_at 2 c.loop-k.k = back w16 c.step_at-in-loop-k.result c.step_at-in-loop-k.type_inv ∙ c.step_at-in-loop-k.ensures in
    trying_more _ _ _ _ _ c.loop-k.invariant (rw (down, right) at c.try_at-next.ensures)

pub returns : goal.returns
returns c =
    let l = c.loop-k in
    let all : l.k ≡ 4 = omega arith in
    trying_all _ _ _ (rw all at l.invariant)
