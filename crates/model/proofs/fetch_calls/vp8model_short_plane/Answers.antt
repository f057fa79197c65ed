-- `vp8model_short_plane` meets its contract: the wrapped call's, as numbers. Assumes nothing.
use Rattle.std.proofs.Common.{ap, ◌∙◌}
use Rattle.numbers.specs.Answers.{bit}
use Rattle.model.proofs.fetch_calls.vp8model_short_plane.Goals as goal

pub returns : goal.returns
returns c = c.bit_of.ensures ∙ ap bit c.short_plane.ensures
