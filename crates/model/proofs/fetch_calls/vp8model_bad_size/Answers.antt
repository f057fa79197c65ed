-- `vp8model_bad_size` meets its contract: the wrapped call's, as numbers. Assumes nothing.
use Rattle.std.proofs.Common.{ap, ◌∙◌}
use Rattle.numbers.specs.Answers.{bit}
use Rattle.model.proofs.fetch_calls.vp8model_bad_size.Goals as goal

pub returns : goal.returns
returns c = c.bit_of.ensures ∙ ap bit c.bad_size.ensures
