-- `vp8model_interp` meets its contract: the wrapped call's, as numbers. Assumes nothing.
use Rattle.std.proofs.Common.{ap, ◌∙◌}
use Rattle.numbers.specs.Answers.{sample_numbers}
use Rattle.model.proofs.prediction_calls.vp8model_interp.Goals as goal

pub returns : goal.returns
returns c = c.sample_numbers.ensures ∙ ap sample_numbers c.interp.ensures
