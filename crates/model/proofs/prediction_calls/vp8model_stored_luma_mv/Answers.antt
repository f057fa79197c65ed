-- `vp8model_stored_luma_mv` meets its contract: the wrapped call's, as numbers. Assumes nothing.
use Rattle.std.proofs.Common.{ap, ◌∙◌, to_z-of_z}
use Rattle.numbers.specs.Answers.{vector_numbers}
use Rattle.model.proofs.prediction_calls.vp8model_stored_luma_mv.Goals as goal

pub returns : goal.returns
returns c =
    let fits = c.ranges in
    let e = simp (to_z-of_z fits.row, to_z-of_z fits.col) at c.stored_luma_mv.ensures in
    c.vector_numbers.ensures ∙ ap vector_numbers e
