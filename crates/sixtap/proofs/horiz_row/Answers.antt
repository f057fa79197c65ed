use Rattle.std.proofs.Common.{arith, ◌≡◌, ◌∙◌, ap, List, ℕ, ◌<◌, ◌+◌, ◌*◌, ◌/◌, ◌%◌}
use Rattle.laws.proofs.Tabulate.{fill_turn, fill_at}
use Rattle.filters.specs.Internal.{window}
use Rattle.sixtap.specs.Internal.{across}
use Rattle.sixtap.proofs.horiz_row.Goals as goal

place : (r k : ℕ) → k < 16 → r * 21 + k ≡ (r * 16 + k) / 16 * 21 + (r * 16 + k) % 16
place r k h = omega arith

made : (f : List ℕ → ℕ) (halo support : List ℕ) (y r k : ℕ) → k < 16 → y ≡ f support → support ≡ window halo (r * 21 + k) 1 → y ≡ across f halo (r * 16 + k)
made f halo support y r k h e p = e ∙ ap f p ∙ ap (λ (n : ℕ). f (window halo n 1)) (place r k h)

pub loop-k-init : goal.loop-k-init
loop-k-init g c = (c.requires.row.1, λ f h. fill_at (omega arith) (c.requires.filling f h))

pub loop-k-preserved : goal.loop-k-preserved
loop-k-preserved g c =
    let l = c.loop-k in (
      l.invariant.0,
      λ f h. fill_at (omega arith)
          (fill_turn (l.invariant.1 f h) (omega arith)
          (made f _ _ _ c.args.r l.k (omega arith) (h _ _ c.sample.type_inv c.sample.ensures) c.gather.ensures)),
    )

pub returns : goal.returns
returns g c = λ f h. fill_at (omega arith) (c.loop-k.invariant.1 f h)
