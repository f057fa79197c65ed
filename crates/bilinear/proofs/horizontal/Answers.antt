-- `horizontal` meets its contract. Assumes nothing.
use Rattle.std.proofs.Common.{arith, ◌≡◌, ◌∙◌, ap, ℕ}
use Rattle.laws.specs.Tabulate.{tabulate}
use Rattle.prediction.specs.Filter.{bilinear}
use Rattle.filters.specs.Internal.{inner_across}
use Rattle.bilinear.proofs.Copies.{copied, weighed}
use Rattle.bilinear.proofs.horizontal.Goals as goal

pub returns-then-mx-eq0 : goal.returns-then-mx-eq0
returns-then-mx-eq0 c =
    let a = c.args in
    let z : 0 ≡ a.mx = omega arith in
    c.columns-samples.ensures.1 ∙ copied a.halo ∙ ap (λ (n : ℕ). tabulate 272 (inner_across bilinear n a.halo)) z

pub returns : goal.returns
returns c =
    c.weighed.ensures ∙ weighed c.args.mx c.args.halo _ _ c.requires c.columns-samples.ensures.0 c.columns-next.ensures.0
