-- `vp8model_whole_offset` meets its contract: the wrapped call's, as numbers. Assumes nothing.
use Rattle.std.proofs.Common.{◌∙◌, to_z-of_z}
use mir.Syntax.{w32}
use Rattle.laws.proofs.Signed.{back}
use Rattle.model.proofs.prediction_calls.vp8model_whole_offset.Goals as goal

pub returns : goal.returns
returns c =
    back w32 c.whole_offset.result c.whole_offset.type_inv ∙ (simp (to_z-of_z c.ranges.v) at c.whole_offset.ensures)
