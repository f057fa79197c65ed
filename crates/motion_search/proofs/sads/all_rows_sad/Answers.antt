-- `all_rows_sad` meets its contract. Assumes nothing.
use Rattle.std.proofs.Common.{◌≡◌, ◌+◌, ◌*◌, arith, rules}
use Rattle.std.proofs.Math.Nat.{add-sub_cancel_left}
use Rattle.laws.proofs.Sums.{sum_none}
use Rattle.search.proofs.Rows.{rows_more}
use Rattle.motion_search.proofs.sads.all_rows_sad.Goals as goal

pub loop-pair-init : goal.loop-pair-init
loop-pair-init c = (sum_none _, search rules)

pub loop-pair-preserved : goal.loop-pair-preserved
loop-pair-preserved c =
    let s = c.args in
    let l = c.loop-pair in
    let next : (l.pair + 1) * 2 ≡ l.pair * 2 + 2 = omega arith in (
      rw next (rows_more s.src.now s.plane.now s.at s.stride (l.pair * 2) l.sum c.two_rows_sad-sum.result l.invariant.0
          (simp add-sub_cancel_left at c.two_rows_sad-sum.ensures.0)),
      omega (arith, l.invariant.1, c.two_rows_sad-sum.ensures.1),
    )
