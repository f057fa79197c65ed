-- `vertical` meets its contract. Assumes nothing.
use Rattle.std.proofs.Common.{arith, ◌≡◌, ◌∙◌, ap, ℕ}
use Rattle.laws.specs.Tabulate.{tabulate}
use Rattle.laws.proofs.Tabulate.{tabulate-same}
use Rattle.prediction.specs.Filter.{bilinear}
use Rattle.filters.specs.Internal.{pair_of, inner_down}
use Rattle.bilinear.proofs.Mean.{mean_list}
use Rattle.bilinear.proofs.vertical.Goals as goal

pub returns-then-my-eq0 : goal.returns-then-my-eq0
returns-then-my-eq0 c =
    let z : 0 ≡ c.args.my = omega arith in
    c.first_rows.ensures ∙ ap (λ (n : ℕ). tabulate 256 (inner_down bilinear n c.args.rows)) z

pub returns : goal.returns
returns c = c.weighed.ensures ∙ tabulate-same 256 _ _ (λ i l. mean_list c.args.my (pair_of c.args.rows i) c.requires)
