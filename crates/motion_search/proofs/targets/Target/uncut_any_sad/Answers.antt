-- `uncut_any_sad` meets its contract. Assumes nothing.
use Rattle.std.proofs.Common.{ap, ◌∙◌, arith, rules}
use Rattle.prediction.specs.declared.motion_comp.FilterSet.{FilterSet}
use Rattle.prediction.specs.declared.motion_comp.FilterSet.TheVariants.{Sixtap}
use Rattle.prediction.specs.Filter.{filter_set_of, taps_of}
use Rattle.search.specs.Internal.{plane_of, cost_by}
use Rattle.search.proofs.Ceilings.{cost_whole}
use Rattle.search.proofs.Versions.{whole_any_version}
use Rattle.motion_search.proofs.Fractions.{no_fractions}
use Rattle.motion_search.proofs.targets.Target.uncut_any_sad.Goals as goal

-- at a whole vector every set gives the six-tap rows' cost
pub returns-then-fraction-eq0-2 : goal.returns-then-fraction-eq0-2
returns-then-fraction-eq0-2 c =
    let a = c.args in
    let t = a.self.now in
    let e = c.stored_luma_mv-eighths in
    let none = no_fractions a.mv e.result _ _ e.ensures (search rules) (search rules) c.fraction-then-fraction-eq0.ensures c.if-fraction-eq0-2.true c.fraction.ensures c.if-fraction-eq0.true in
    c.uncut_whole_sad.ensures
    ∙ whole_any_version Sixtap (filter_set_of a.version) (plane_of t.plane.now t.site) t.site.column t.site.row t.src.now a.mv
    (λ k. omega (arith, t.plane_bytes k)) none

pub returns : goal.returns
returns c =
    let a = c.args in
    let t = a.self.now in
    cost_whole _ _ _ _ _ 65281 _ (λ i. omega (arith, t.src_bytes i)) (omega arith) c.any_sad.ensures
    ∙ ap (λ (set : FilterSet). cost_by (taps_of set) t.plane.now t.site t.src.now a.mv) c.filter_set_for_version-set.ensures
