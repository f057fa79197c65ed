-- `vp8model_check_build` meets its contract: the wrapped call's, as numbers. Assumes nothing.
use Rattle.std.proofs.Common.{ap, ◌∙◌}
use Rattle.numbers.specs.Answers.{check_numbers}
use Rattle.model.proofs.denoiser_calls.vp8model_check_build.Goals as goal

pub returns : goal.returns
returns c = c.check_numbers.ensures ∙ ap check_numbers c.check_build.ensures
