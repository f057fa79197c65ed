-- `two_rows_sad` meets its contract. Assumes nothing.
use Rattle.std.proofs.Common.{◌≡◌, ℕ, ◌+◌, arith, rules}
use Rattle.laws.proofs.Sums.{sum_none, sum_more}
use Rattle.search.specs.Internal.{two_apart}
use Rattle.motion_search.proofs.sads.two_rows_sad.Goals as goal

pair : (x x' y y' : ℕ) → x ≡ x' → y ≡ y' → x + y ≡ x' + y'
pair x x' y y' e f = cc

pub loop-k-init : goal.loop-k-init
loop-k-init c = (sum_none _, search rules)

pub loop-k-preserved : goal.loop-k-preserved
loop-k-preserved c =
    let l = c.loop-k in
    let s = c.args in
    let e = c.abs_diff in
    let both = pair e.result _ c.abs_diff-in-loop-k.result _ e.ensures c.abs_diff-in-loop-k.ensures in
    (sum_more (two_apart s.a.now s.b.now s.c.now) l.k _ l.sum l.invariant.0 both, omega (arith, e.type_inv, c.abs_diff-in-loop-k.type_inv))
