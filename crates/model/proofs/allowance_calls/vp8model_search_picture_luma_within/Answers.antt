-- `vp8model_search_picture_luma_within` meets its contract: the wrapped call's, as numbers. Assumes nothing.
use Rattle.std.proofs.Common.{refl, ap, ◌∙◌}
use Rattle.numbers.specs.Answers.{allowed_numbers}
use Rattle.model.proofs.allowance_calls.vp8model_search_picture_luma_within.Goals as goal

pub returns : goal.returns
returns c =
    let e = c.search_picture_luma_within-answer.ensures in
    record {
      numbers = c.allowed_numbers.ensures ∙ ap allowed_numbers e.answer;
      held = record { answer = refl; rows = e.rows; cols = e.cols; sads = e.sads };
    }
