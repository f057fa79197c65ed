-- `arnr::build::resolve` meets its contract. Assumes nothing.
use Rattle.std.proofs.Common.{◌≡◌, refl, length, arith}
use Rattle.weights.specs.Blend.{denoised}
use Rattle.denoiser.proofs.Fronts.{front_none, front-more}
use Rattle.arnr.proofs.build.resolve.Goals as goal

pub loop-k-init : goal.loop-k-init
loop-k-init c = front_none _ _

pub overflow_cast-out : goal.overflow_cast-out
unfolding denoised
overflow_cast-out c = omega (arith, (c.requires.by_index c.loop-k.k c.loop-k-test.true).byte)

pub loop-k-preserved : goal.loop-k-preserved
unfolding denoised
loop-k-preserved c = front-more _ c.loop-k.k _ c.args.out.now c.loop-k.out (omega arith) refl c.loop-k.invariant

pub returns : goal.returns
returns c =
    let k-is : c.loop-k.k ≡ length c.args.out.now = omega arith in
    rw k-is at c.loop-k.invariant
