-- Assumes nothing.
use Rattle.std.proofs.Common.{◌≡◌, ℕ, ◌+◌, ◌<◌, ◌≤◌, add-one, arith, ◌∙◌, refl}
use Rattle.std.proofs.lemmas.Bool.{lt-ltb, le-ltb}
use Rattle.weights.specs.Weights.{weight_read}
use Rattle.curves.specs.Reach.{reach_of}
use Rattle.curves.proofs.reach.Goals as goal
use Rattle.curves.proofs.reach.Goals.{then-weight-gt0, else-weight-gt0}

-- the greatest difference is n, or lies below it
here : (w : ℕ → ℕ) (n : ℕ) → 0 < w n → n ≡ reach_of w (n + 1)
unfolding reach_of
here w n h = simp (add-one, lt-ltb 0 (w n) h)

lower : (w : ℕ → ℕ) (n : ℕ) → w n ≤ 0 → reach_of w n ≡ reach_of w (n + 1)
unfolding reach_of
lower w n h = simp (add-one, le-ltb 0 (w n) h)

pub loop-e-init : goal.loop-e-init
unfolding reach_of
loop-e-init c = refl

pub loop-e-preserved : goal.loop-e-preserved
loop-e-preserved c =
    let w = weight_read c.args.strength in
    let e = c.loop-e.e in
    elim c.if-weight-gt0.branch [
      | then-weight-gt0 b ↦ b.reach-is ∙ here w e (omega (arith, c.weight.ensures, b.if-weight-gt0.true))
      | else-weight-gt0 b ↦ b.reach-is ∙ c.loop-e.invariant ∙ lower w e (omega (arith, c.weight.ensures, b.if-weight-gt0.false))
    ]
