-- `arnr::build::copy_row` meets its contract. Assumes nothing.
use Rattle.std.specs.Prelude.{◌≡◌, ℕ, ◌<◌, length, get_or}
use Rattle.arnr.proofs.build.copy_row.Given as goal

abbrev pub invariant-loop-k : goal.invariant-loop-k
invariant-loop-k l = (length l.to ≡ length l.from) × ((j : ℕ) → j < l.k → get_or l.to j 0 ≡ get_or l.from j 0)
