-- `small_diamond` meets its contract. Assumes nothing.
use Rattle.std.proofs.Common.{◌-◌}
use Rattle.search.specs.Internal.{cost_at}
use Rattle.search.proofs.Steps.{Going}
use Rattle.motion_search.proofs.targets.Target.small_diamond.Given as goal

abbrev pub invariant-loop-best : goal.invariant-loop-best
invariant-loop-best l = Going (cost_at l.self.plane.now l.self.site l.self.src.now) l.limit l.initial.best l.best

abbrev pub decreases-loop-best : goal.decreases-loop-best
decreases-loop-best l = l.limit - l.best.rounds
