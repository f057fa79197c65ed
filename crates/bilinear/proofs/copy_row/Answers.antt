-- `copy_row` meets its contract. Assumes nothing.
use Rattle.std.proofs.Common.{arith, ℕ, ◌<◌, ◌+◌, ◌*◌, ◌/◌, ◌%◌, min, List, ◌≡◌, ◌∙◌, ap, get_or}
use Rattle.laws.proofs.Tabulate.{fill_turn}
use Rattle.bilinear.specs.Internal.{columns_of}
use Rattle.bilinear.proofs.Copies.{copied_at}
use Rattle.bilinear.proofs.copy_row.Goals as goal

place : (right : ℕ) (halo : List ℕ) (r k : ℕ) → k < 16 → get_or halo (r * 21 + k + 44 + right) 0 ≡ columns_of right halo (r * 16 + k)
place right halo r k h =
    let e : r * 21 + k + 44 + right ≡ (r * 16 + k) / 16 * 21 + (r * 16 + k) % 16 + 44 + right = omega arith in
    ap (λ (n : ℕ). get_or halo n 0) e

pub loop-k-init : goal.loop-k-init
loop-k-init c = (c.requires.2, copied_at (omega arith) c.requires.3)

pub loop-k-preserved : goal.loop-k-preserved
loop-k-preserved c =
    let l = c.loop-k in
    let a = c.args in
    let e = place a.right a.halo.now a.r l.k (omega arith) in
    let v = c.kept.ensures.0 ∙ e in
    let b = c.kept.ensures.1 ∙ ap (λ (n : ℕ). min n 255) e in (
      l.invariant.0,
      copied_at (omega arith) (record { samples = fill_turn l.invariant.1.samples (omega arith) v; bytes = fill_turn l.invariant.1.bytes (omega arith) b }),
    )

pub returns : goal.returns
returns c = copied_at (omega arith) c.loop-k.invariant.1
