-- `arnr::accumulate::capped` meets its contract: the first e weights are cut. Assumes nothing.
use Rattle.std.proofs.Common.{◌≡◌, sym, subst, ℕ, arith}
use Rattle.std.proofs.Math.ListN.{length-replicate}
use Rattle.laws.proofs.Tabulate.{fill_start, fill_turn, fill_end}
use Rattle.denoiser.specs.Internal.{Light, capped_curve}
use Rattle.denoiser.proofs.Pictures.{capped_light}
use Rattle.arnr.proofs.accumulate.capped.Goals as goal

pub loop-e-init : goal.loop-e-init
loop-e-init c = fill_start (length-replicate {A = ℕ} 256 0)

pub loop-e-preserved : goal.loop-e-preserved
loop-e-preserved c = fill_turn c.loop-e.invariant c.loop-e-test.true (omega arith)

pub invariant_of-result : goal.invariant_of-result
unfolding capped_curve
invariant_of-result c =
    let cut : c.loop-e.cut ≡ capped_curve c.args.curve.now.at c.args.cap = fill_end c.loop-e.invariant c.loop-e-test.false in
    record { light = subst Light (sym cut) (capped_light c.args.curve.now.at c.args.cap c.args.curve.now.light) }

pub returns : goal.returns
unfolding capped_curve
returns c = fill_end c.loop-e.invariant c.loop-e-test.false
