-- `sixtap_mb_luma` meets its contract: the two passes. Assumes nothing.
use Rattle.std.proofs.Common.{List, ℕ, ap, ◌∙◌}
use Rattle.laws.specs.Tabulate.{tabulate}
use Rattle.prediction.specs.Filter.{sixtap}
use Rattle.prediction.specs.Prediction.{filtered_mb}
use Rattle.filters.specs.Internal.{down_of}
use Rattle.filters.proofs.Passes.{passes}
use Rattle.filters.proofs.Answers.{both_legal}
use Rattle.sixtap.proofs.sixtap_mb_luma.Goals as goal

pub returns : goal.returns
returns c =
    let a = c.args in
    both_legal a.mx a.my 256 (filtered_mb sixtap a.mx a.my a.halo) _ c.if-mx-gt7.false c.if-my-gt7.false
    (c.vertical-block.ensures ∙ ap (λ (rows : List ℕ). tabulate 256 (down_of sixtap a.my rows)) c.horizontal-rows.ensures
    ∙ passes sixtap a.mx a.my a.halo)
