-- `weights::curve` meets its contract. Assumes nothing.
use Rattle.std.proofs.Common.{ap, ◌∙◌, ℕ, ◌+◌, ◌-◌, ◌<◌, arith}
use Rattle.weights.specs.Weights.{weight_read}
use Rattle.weights.proofs.Weights.{zeros, read_none, read_as}
use Rattle.weights.proofs.curve.Goals as goal

pub returns-in-0 : goal.returns-in-0
returns-in-0 c =
    let s = c.args.strength in
    zeros (weight_read s) 256 (λ e. ap (λ (t : ℕ). weight_read t e) c.in-0.is ∙ read_none e)

pub returns-in-1-to-6 : goal.returns-in-1-to-6
returns-in-1-to-6 c =
    let s = c.args.strength in
    let some : 0 < s = omega arith in
    c.row_of.ensures ∙ read_as s (s - 1 + 1) 256 some (omega arith)

pub returns-in_default : goal.returns-in_default
returns-in_default c =
    let s = c.args.strength in
    c.row_of-in_default.ensures ∙ read_as s 6 256 (omega arith) (omega arith)
