-- The reach among the differences below e.
use Rattle.std.proofs.Common.{◌≡◌}
use Rattle.weights.specs.Weights.{weight_read}
use Rattle.curves.specs.Reach.{reach_of}
use Rattle.curves.proofs.reach.Given as goal

abbrev pub invariant-loop-e : goal.invariant-loop-e
invariant-loop-e l = l.reach ≡ reach_of (weight_read l.strength) l.e
