-- `bilinear_mb_luma` meets its contract: the two passes. Assumes nothing.
use Rattle.std.proofs.Common.{List, ℕ, ap, ◌∙◌}
use Rattle.laws.specs.Tabulate.{tabulate}
use Rattle.prediction.specs.Filter.{bilinear}
use Rattle.prediction.specs.Prediction.{filtered_mb}
use Rattle.filters.specs.Internal.{inner_down}
use Rattle.filters.proofs.Passes.{inner_rows, passes}
use Rattle.filters.proofs.Answers.{both_legal}
use Rattle.bilinear.proofs.Mean.{bilinear-two}
use Rattle.bilinear.proofs.bilinear_mb_luma.Goals as goal

pub returns : goal.returns
returns c =
    let a = c.args in
    both_legal a.mx a.my 256 (filtered_mb bilinear a.mx a.my a.halo) _ c.if-mx-gt7.false c.if-my-gt7.false
    (c.vertical-block.ensures ∙ ap (λ (rows : List ℕ). tabulate 256 (inner_down bilinear a.my rows)) c.horizontal-rows.ensures
    ∙ inner_rows bilinear bilinear-two a.mx a.my a.halo ∙ passes bilinear a.mx a.my a.halo)
