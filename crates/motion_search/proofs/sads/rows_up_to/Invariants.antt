-- `rows_up_to` meets its contract. Assumes nothing.
use Rattle.std.proofs.Common.{◌*◌}
use Rattle.prediction.specs.Internal.{row_apart}
use Rattle.prediction.proofs.Ceilings.{Measuring}
use Rattle.motion_search.proofs.sads.rows_up_to.Given as goal

abbrev pub invariant-loop-turn : goal.invariant-loop-turn
invariant-loop-turn l = Measuring (row_apart l.src 0 16 l.plane l.at l.stride) l.ceiling (l.turn * 4) l.left
