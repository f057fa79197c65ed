-- `vp8model_half_pixel_refine_luma` meets its contract: the wrapped call's, as numbers. Assumes nothing.
use Rattle.std.proofs.Common.{ap, ◌∙◌, to_z-of_z}
use Rattle.numbers.specs.Answers.{search_numbers}
use Rattle.model.proofs.search_calls.vp8model_half_pixel_refine_luma.Goals as goal

pub returns : goal.returns
returns c =
    let fits = c.ranges in
    let e = simp (to_z-of_z fits.center_row, to_z-of_z fits.center_col) at c.half_pixel_refine_luma-answer.ensures in
    c.search_numbers.ensures ∙ ap search_numbers e
