-- `small_diamond` meets its contract. Assumes nothing.
use Rattle.std.proofs.Common.{◌≡◌, ℕ, ◌+◌, ap, ◌∙◌, arith}
use Rattle.prediction.specs.declared.motion_vector.Mv.{Mv}
use Rattle.search.specs.Search.{gridded, descend, start_at, diamond}
use Rattle.search.specs.Internal.{plane_of, cost_at}
use Rattle.search.proofs.Grid.{whole, whole_copied}
use Rattle.search.proofs.SadLaws.{cost_most}
use Rattle.search.proofs.Descent.{round_is}
use Rattle.search.proofs.Steps.{going_start, going_more, going_last, going_end, start_at_lem}
use Rattle.motion_search.specs.declared.targets.Target.{Target}
use Rattle.motion_search.proofs.targets.Target.small_diamond.Goals as goal

-- what is measured first is where the diamond begins
begun : (t : Target) (centre mv : Mv) (sad : ℕ) → mv ≡ gridded centre → sad ≡ cost_at t.plane.now t.site t.src.now mv
    → record { mv = mv; sad = sad; sads = 1; rounds = 0 } ≡ start_at (cost_at t.plane.now t.site t.src.now) centre
begun t centre mv sad e f = start_at_lem _ _ _ _ e f

pub uncut_whole_sad-requires : goal.uncut_whole_sad-requires
uncut_whole_sad-requires c = rw c.to_grid-mv.ensures (whole_copied _ (whole c.args.center))

pub loop-best-init : goal.loop-best-init
loop-best-init c =
    let t = c.args.self.now in
    rw (begun t c.args.center _ _ c.to_grid-mv.ensures c.uncut_whole_sad.ensures)
    (going_start (cost_at t.plane.now t.site t.src.now) c.args.limit c.args.center
    (cost_most (plane_of t.plane.now t.site) t.site.column t.site.row t.src.now (gridded c.args.center) (λ i. omega (arith, t.src_bytes i))))

pub returns-then-best-next : goal.returns-then-best-next
unfolding diamond
returns-then-best-next c =
    c.round-next.ensures
    ∙ going_last _ _ _ _ c.loop-best.invariant c.loop-best-test.true (rw c.round-next.ensures at c.if-best-next.true)
    ∙ ap (descend _ _) (begun c.args.self.now c.args.center _ _ c.to_grid-mv.ensures c.uncut_whole_sad.ensures)

pub loop-best-smaller : goal.loop-best-smaller
loop-best-smaller c =
    let n : c.round-next.result.rounds ≡ c.loop-best.best.rounds + 1 = rw c.round-next.ensures (round_is _ _ c.loop-best.invariant.good).rounds in
    omega (arith, n, c.loop-best-test.true)

pub loop-best-preserved : goal.loop-best-preserved
loop-best-preserved c =
    rw c.round-next.ensures (going_more _ _ _ _ c.loop-best.invariant c.loop-best-test.true (rw c.round-next.ensures at c.if-best-next.false))

pub returns : goal.returns
unfolding diamond
returns c =
    going_end _ _ _ _ c.loop-best.invariant c.loop-best-test.false
    ∙ ap (descend _ _) (begun c.args.self.now c.args.center _ _ c.to_grid-mv.ensures c.uncut_whole_sad.ensures)
