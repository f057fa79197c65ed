-- `arnr::build::resolve` meets its contract. Assumes nothing.
use Rattle.std.specs.Prelude.{get_or}
use Rattle.weights.specs.Blend.{denoised}
use Rattle.denoiser.specs.Internal.{Front}
use Rattle.arnr.proofs.build.resolve.Given as goal

abbrev pub invariant-loop-k : goal.invariant-loop-k
invariant-loop-k l = Front l.k (λ j. denoised (get_or l.sums j 0) (get_or l.weights j 0)) l.initial.out l.out
