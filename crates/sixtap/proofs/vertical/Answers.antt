use Rattle.std.proofs.Common.{arith, rules, ◌≡◌, ◌∙◌, ap, ℕ}
use Rattle.laws.specs.Tabulate.{tabulate}
use Rattle.prediction.specs.Filter.{sixtap}
use Rattle.filters.specs.Internal.{filtered_list, down_of}
use Rattle.sixtap.proofs.Sizes.{sample_law, copied}
use Rattle.sixtap.proofs.vertical.Goals as goal

pub returns-then-my-eq0 : goal.returns-then-my-eq0
returns-then-my-eq0 c =
    let z : 0 ≡ c.args.my = omega arith in
    c.sixtap_vert.ensures (filtered_list sixtap 0) (λ w y h p. copied w y h (search rules)) ∙ ap (λ (n : ℕ). tabulate 256 (down_of sixtap n c.args.rows)) z

pub returns : goal.returns
returns c = c.sixtap_vert-2.ensures (filtered_list sixtap c.args.my) (λ w y h p. search rules ∙ sample_law _ _ w c.row-t.ensures)
