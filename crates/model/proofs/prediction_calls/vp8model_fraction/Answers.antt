-- `vp8model_fraction` meets its contract: the wrapped call's, as numbers. Assumes nothing.
use Rattle.std.proofs.Common.{to_z-of_z}
use Rattle.model.proofs.prediction_calls.vp8model_fraction.Goals as goal

pub returns : goal.returns
returns c = simp (to_z-of_z c.ranges.v) at c.fraction.ensures
