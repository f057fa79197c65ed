-- `vp8model_mb_luma_sad_at_mv` meets its contract: the wrapped call's, as numbers. Assumes nothing.
use Rattle.std.proofs.Common.{ap, ◌∙◌, to_z-of_z}
use Rattle.numbers.specs.Answers.{sad_numbers}
use Rattle.model.proofs.search_calls.vp8model_mb_luma_sad_at_mv.Goals as goal

pub returns : goal.returns
returns c =
    let fits = c.ranges in
    let e = simp (to_z-of_z fits.mv_row, to_z-of_z fits.mv_col) at c.mb_luma_sad_at_mv-answer.ensures in
    c.sad_numbers.ensures ∙ ap sad_numbers e
