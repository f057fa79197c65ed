-- `arnr::build::seed` meets its contract. Assumes nothing.
use Rattle.std.specs.Prelude.{◌*◌, get_or}
use Rattle.denoiser.specs.Internal.{Front}
use Rattle.arnr.proofs.build.seed.Given as goal

abbrev pub invariant-loop-k : goal.invariant-loop-k
invariant-loop-k l = Front l.k (λ j. 16 * get_or l.out j 0) l.initial.sums l.sums
