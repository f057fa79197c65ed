-- `arnr::half::across_row` meets its contract. Assumes nothing.
use Rattle.std.proofs.Common.{arith, ℕ, ◌<◌, ◌+◌, ◌*◌, ◌/◌, ◌%◌, ◌≡◌, ◌∙◌, ap}
use Rattle.laws.proofs.Tabulate.{fill_turn, fill_at}
use Rattle.prediction.specs.Filter.{sixtap}
use Rattle.filters.specs.Internal.{window, filtered_list}
use Rattle.arnr.proofs.half.across_row.Goals as goal

place : (r k : ℕ) → k < 8 → r * 16 + k ≡ (r * 8 + k) / 8 * 16 + (r * 8 + k) % 8
place r k h = omega arith

pub loop-k-preserved : goal.loop-k-preserved
loop-k-preserved c =
    let l = c.loop-k in
    let a = c.args in
    let v = c.passed.ensures ∙ ap (filtered_list sixtap a.s) c.six-support.ensures ∙ ap (λ (n : ℕ). filtered_list sixtap a.s (window a.halo.now n 1)) (place a.r l.k (omega arith)) in
    (omega arith, l.invariant.1, fill_at (omega arith) (fill_turn l.invariant.2 (omega arith) v))
