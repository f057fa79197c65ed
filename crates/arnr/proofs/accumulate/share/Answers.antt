use Rattle.std.proofs.Common.{ap, ℕ, get_or}
use Rattle.arnr.proofs.accumulate.share.Goals as goal

pub returns : goal.returns
returns c = (ap (λ (e : ℕ). get_or c.args.curve.now.at e 0) c.abs_diff.ensures, c.args.curve.now.light c.abs_diff.result)
