-- `window::first_frame` meets its contract: no frame passed has the property. Assumes nothing.
use Rattle.std.proofs.Common.{ℕ, false, ◌<◌}
use Rattle.window.specs.Frames.{frame_at}
use Rattle.window.proofs.first_frame.Given as goal

abbrev pub invariant-loop-g : goal.invariant-loop-g
invariant-loop-g g l = (j : ℕ) → j < l.g → goal.P-post g l.has (frame_at l.numbers j) false
