use Rattle.std.proofs.Common.{List, ℕ, ◌≡◌, arith, rules, refl, ◌∙◌, ap}
use Rattle.laws.proofs.Tabulate.{fill_start, fill_turn, fill_end}
use Rattle.sixtap.proofs.sixtap_vert.Goals as goal

made : (f : List ℕ → ℕ) (y : ℕ) (support w : List ℕ) → y ≡ f support → support ≡ w → y ≡ f w
made f y support w e p = e ∙ ap f p

pub loop-i-init : goal.loop-i-init
loop-i-init g c = (search rules, λ f h. fill_start refl)

pub loop-i-preserved : goal.loop-i-preserved
loop-i-preserved g c =
    let l = c.loop-i in
    (l.invariant.0, λ f h. fill_turn (l.invariant.1 f h) (omega arith) (made f _ _ _ (h _ _ c.sample.type_inv c.sample.ensures) c.gather.ensures))

pub returns : goal.returns
returns g c = λ f h. fill_end (c.loop-i.invariant.1 f h) (omega arith)
