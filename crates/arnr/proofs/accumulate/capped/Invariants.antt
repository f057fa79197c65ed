-- `arnr::accumulate::capped` meets its contract: the first e weights are cut. Assumes nothing.
use Rattle.std.specs.Prelude.{min, get_or}
use Rattle.laws.specs.Internal.{Filling}
use Rattle.arnr.proofs.accumulate.capped.Given as goal

abbrev pub invariant-loop-e : goal.invariant-loop-e
invariant-loop-e l = Filling (λ d. min l.cap (get_or l.curve.at d 0)) 256 l.cut l.e
