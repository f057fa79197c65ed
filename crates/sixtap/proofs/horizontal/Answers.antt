use Rattle.std.proofs.Common.{arith, rules, ◌≡◌, ◌∙◌, ap, ℕ}
use Rattle.laws.specs.Tabulate.{tabulate}
use Rattle.prediction.specs.Filter.{sixtap}
use Rattle.filters.specs.Internal.{filtered_list, across_of}
use Rattle.sixtap.proofs.Sizes.{sample_law, copied}
use Rattle.sixtap.proofs.horizontal.Goals as goal

pub returns-then-mx-eq0 : goal.returns-then-mx-eq0
returns-then-mx-eq0 c =
    let z : 0 ≡ c.args.mx = omega arith in
    c.sixtap_horiz.ensures (filtered_list sixtap 0) (λ w y h p. copied w y h (search rules)) ∙ ap (λ (n : ℕ). tabulate 336 (across_of sixtap n c.args.halo)) z

pub returns : goal.returns
returns c = c.sixtap_horiz-2.ensures (filtered_list sixtap c.args.mx) (λ w y h p. search rules ∙ sample_law _ _ w c.row-t.ensures)
