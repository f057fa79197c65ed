-- `vp8model_small_diamond_search_luma` meets its contract: the wrapped call's, as numbers. Assumes nothing.
use Rattle.std.proofs.Common.{ap, ◌∙◌, to_z-of_z}
use Rattle.numbers.specs.Answers.{diamond_numbers}
use Rattle.model.proofs.search_calls.vp8model_small_diamond_search_luma.Goals as goal

pub returns : goal.returns
returns c =
    let fits = c.ranges in
    let e = simp (to_z-of_z fits.center_row, to_z-of_z fits.center_col) at c.small_diamond_search_luma-answer.ensures in
    c.diamond_numbers.ensures ∙ ap diamond_numbers e
