-- `try_mv` meets its contract. Assumes nothing.
use Rattle.std.proofs.Common.{◌≡◌, min, ap, ◌∙◌, arith}
use Rattle.laws.proofs.Best.{cut-less, cut-not}
use Rattle.prediction.specs.declared.ceiling.Ceiled.{Ceiled}
use Rattle.prediction.specs.declared.motion_comp.FilterSet.{FilterSet}
use Rattle.prediction.specs.declared.motion_vector.Mv.{Mv}
use Rattle.prediction.specs.Ceiled.{CeiledIs}
use Rattle.prediction.specs.Filter.{taps_of}
use Rattle.search.specs.declared.SearchResult.{SearchResult}
use Rattle.search.specs.Internal.{cost_by, cost_row}
use Rattle.search.proofs.Ceilings.{cost_read}
use Rattle.motion_search.specs.declared.targets.Target.{Target}
use Rattle.motion_search.proofs.targets.Target.try_mv.Goals as goal

-- what is read of a vector is the lesser of its cost and that of the best
lesser : (t : Target) (set : FilterSet) (best : SearchResult) (v : Mv) (r : Ceiled) → best.sad ≡ cost_by (taps_of set) t.plane.now t.site t.src.now best.mv
    → CeiledIs (cost_row (taps_of set) t.plane.now t.site t.src.now v) 16 best.sad r
    → r.sad ≡ min (cost_by (taps_of set) t.plane.now t.site t.src.now v) (cost_by (taps_of set) t.plane.now t.site t.src.now best.mv)
lesser t set best v r known is =
    cost_read (taps_of set) t.plane.now t.site t.src.now v best.sad r is ∙ ap (min (cost_by (taps_of set) t.plane.now t.site t.src.now v)) known

pub returns-then-read-best : goal.returns-then-read-best
returns-then-read-best c =
    let a = c.args in
    let read = lesser a.self.now a.set a.best a.mv _ c.requires c.any_sad-read.ensures in
    let both = cut-less _ _ _ _ read (omega (arith, c.requires, c.if-read-best.true)) in
    record { mv_value = both.0; sad_value = both.1 }

pub returns-else-read-best : goal.returns-else-read-best
returns-else-read-best c =
    let a = c.args in
    let read = lesser a.self.now a.set a.best a.mv _ c.requires c.any_sad-read.ensures in
    record { mv_value = cut-not _ _ _ _ read (omega (arith, c.requires, c.if-read-best.false)); sad_value = c.requires }
