-- `vp8model_search_picture_luma` meets its contract: the wrapped call's, as numbers. Assumes nothing.
use Rattle.std.proofs.Common.{refl, ap, ◌∙◌}
use Rattle.numbers.specs.Answers.{picture_numbers}
use Rattle.model.proofs.search_calls.vp8model_search_picture_luma.Goals as goal

pub returns : goal.returns
returns c =
    let e = c.search_picture_luma-answer.ensures in
    record {
      numbers = c.picture_numbers.ensures ∙ ap picture_numbers e.answer;
      held = record { answer = refl; rows = e.rows; cols = e.cols; sads = e.sads };
    }
