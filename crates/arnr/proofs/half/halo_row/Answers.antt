-- `arnr::half::halo_row` meets its contract: one place of the row after the other. Assumes nothing.
use Rattle.std.proofs.Common.{arith, ap, ◌≡◌, ◌∙◌, ℕ, ◌+◌, ◌*◌, ◌/◌, ◌%◌, ◌<◌, pos}
use Rattle.laws.proofs.Tabulate.{fill_at, fill_turn}
use Rattle.prediction.specs.Plane.{Samples, sample_at}
use Rattle.denoiser.specs.Search.{displaced_by}
use Rattle.denoiser.specs.Internal.{plane_in, halo_entry}
use Rattle.arnr.proofs.half.halo_row.Goals as goal

-- entry 16r + k is sample k of row r
entry_is : (at : Samples) (x y r k : ℕ) → k < 16 → at (pos (x + k)) (pos (y + r)) ≡ halo_entry at x y (r * 16 + k)
entry_is at x y r k h =
    let i : k ≡ (r * 16 + k) % 16 = omega arith in
    let j : r ≡ (r * 16 + k) / 16 = omega arith in
    ap (λ (n : ℕ). at (pos (x + n)) (pos (y + r))) i ∙ ap (λ (n : ℕ). at (pos (x + (r * 16 + k) % 16)) (pos (y + n))) j

pub loop-k-preserved : goal.loop-k-preserved
loop-k-preserved c =
    let l = c.loop-k in
    let a = c.args in
    let h = c.loop-k-test.true in
    let v = c.displaced_row-row.ensures l.k h ∙ entry_is (displaced_by a.d (sample_at (plane_in a.bytes.now a.p))) a.x a.y a.r l.k h in
    (omega (arith, h), fill_at (omega arith) (fill_turn l.invariant.1 (omega (arith, c.requires.r_bound, h)) v))
