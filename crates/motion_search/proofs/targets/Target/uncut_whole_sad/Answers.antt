-- `uncut_whole_sad` meets its contract. Assumes nothing.
use Rattle.std.proofs.Common.{◌≡◌, rules, sym, ap, ◌∙◌, arith}
use Rattle.laws.proofs.Sums.{sum_same}
use Rattle.prediction.specs.declared.motion_vector.Mv.{Mv}
use Rattle.prediction.specs.Filter.{sixtap}
use Rattle.sixtap.proofs.Sizes.{sixtap-whole}
use Rattle.search.specs.Sad.{sad16}
use Rattle.search.specs.Internal.{copied_at}
use Rattle.search.proofs.Rows.{sad-rows}
use Rattle.search.proofs.SadLaws.{cost_copied}
use Rattle.motion_search.proofs.targets.Target.uncut_whole_sad.Goals as goal

pub returns-in-Some : goal.returns-in-Some
returns-in-Some c =
    let a = c.args in
    let t = a.self.now in
    c.all_rows_sad.ensures.0
    ∙ sum_same _ _ 16 (c.in-Some.ensures.row t.src.now)
    ∙ sym (sad-rows t.src.now _)
    ∙ ap (λ (v : Mv). sad16 t.src.now (copied_at t.plane.now t.site v)) c.stored_luma_mv-eighths.ensures
    ∙ cost_copied sixtap sixtap-whole t.plane.now t.site t.src.now a.mv c.requires (λ k. omega (arith, t.plane_bytes k))

pub returns-in_default : goal.returns-in_default
returns-in_default c =
    let a = c.args in
    let t = a.self.now in
    let read : c.measured_copy.result ≡ sad16 t.src.now (copied_at t.plane.now t.site c.stored_luma_mv-eighths.result) = search rules in
    read
    ∙ ap (λ (v : Mv). sad16 t.src.now (copied_at t.plane.now t.site v)) c.stored_luma_mv-eighths.ensures
    ∙ cost_copied sixtap sixtap-whole t.plane.now t.site t.src.now a.mv c.requires (λ k. omega (arith, t.plane_bytes k))
