-- `arnr::search::round` meets its contract. The loop's invariant: the best so far is that of the start and the first k neighbours, with its cost. Assumes nothing.
use Rattle.std.specs.Prelude.{◌≤◌}
use Rattle.laws.specs.Best.{best_of}
use Rattle.denoiser.specs.Search.{neighbour_of}
use Rattle.denoiser.specs.Internal.{Measured, luma_cost}
use Rattle.arnr.proofs.search.round.Given as goal

abbrev pub invariant-loop-k : goal.invariant-loop-k
invariant-loop-k l =
    (l.k ≤ 8) × Measured (luma_cost l.centre l.bytes l.p l.b) (best_of (luma_cost l.centre l.bytes l.p l.b) l.from (neighbour_of l.from l.step) l.k) l.found
