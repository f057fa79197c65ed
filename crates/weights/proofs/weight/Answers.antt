-- `weights::weight` meets its contract. Assumes nothing.
use Rattle.std.proofs.Common.{ap, ◌∙◌, List, ℕ, get_or, rules}
use Rattle.laws.proofs.Tabulate.{get_d_tabulate}
use Rattle.weights.specs.Weights.{weight_read}
use Rattle.weights.proofs.weight.Goals as goal

pub returns : goal.returns
returns c =
    let s = c.args in
    ap (λ (l : List ℕ). get_or l s.e 0) c.curve-weights.ensures ∙ get_d_tabulate 256 (weight_read s.strength) s.e 0 (search rules)
