-- `refine_at` meets its contract. Assumes nothing.
use Rattle.std.proofs.Common.{◌≡◌, ℕ, arith}
use Rattle.laws.proofs.Best.{best_none, best_more}
use Rattle.prediction.specs.declared.motion_vector.Mv.{Mv}
use Rattle.prediction.specs.Filter.{taps_of}
use Rattle.search.specs.declared.SearchResult.{SearchResult}
use Rattle.search.specs.Search.{measured_at, refine}
use Rattle.search.specs.Internal.{cost_by}
use Rattle.motion_search.proofs.targets.Target.refine_at.Goals as goal

found_is : (cost : Mv → ℕ) {b : SearchResult} {v : Mv} → b.sad ≡ cost b.mv → b.mv ≡ v → b ≡ measured_at cost v
found_is cost {b} {v} p q = rw (p, q)

pub loop-k-init : goal.loop-k-init
loop-k-init c = (best_none _ _ _, c.requires.sad_value)

pub loop-k-preserved : goal.loop-k-preserved
loop-k-preserved c =
    let l = c.loop-k in (
      best_more _ _ _ l.k l.best.mv c.try_mv-best.result.mv l.invariant.0 (rw c.raster_of-mv.ensures at c.try_mv-best.ensures.mv_value),
      c.try_mv-best.ensures.sad_value,
    )

pub returns : goal.returns
unfolding refine
returns c =
    let a = c.args in
    let t = a.self.now in
    let i = c.loop-k.invariant in
    let all : c.loop-k.k ≡ 8 = omega arith in
    found_is (cost_by (taps_of a.set) t.plane.now t.site t.src.now) i.1 (rw all at i.0)
