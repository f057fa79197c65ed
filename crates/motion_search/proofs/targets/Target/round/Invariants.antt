-- `round` meets its contract. Assumes nothing.
use Rattle.search.specs.Internal.{cost_at}
use Rattle.search.proofs.Steps.{Trying}
use Rattle.motion_search.proofs.targets.Target.round.Given as goal

abbrev pub invariant-loop-k : goal.invariant-loop-k
invariant-loop-k l = Trying (cost_at l.self.plane.now l.self.site l.self.src.now) l.initial.next l.k l.next
