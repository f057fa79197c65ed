-- A row of two blocks that stand in lists, as parts of them. Assumes nothing.
use mathlib.Core.Path.{◌≡◌}
use mathlib.Core.List.{List}
use Prim.Native.Nat.{ℕ, ◌+◌, ◌*◌, ◌≤◌, ◌<◌}
use native.Mathlib.Nat.{mul-le-mul_right}
use native.Mathlib.Omega.{arith}
use lib.ListN.{get_or}
use borrow.Rule.Slice.PartMut.{mid_of}
use Rattle.laws.specs.Sums.{sum_below}
use Rattle.laws.proofs.Sums.{sum_same}
use Rattle.laws.proofs.Slices.{mid_at}
use Rattle.prediction.specs.Samples.{distance}
use Rattle.prediction.specs.Internal.{row_apart}

-- row j ends within the list
pub row_ends : (at stride j n : ℕ) → at + 15 * stride + 16 ≤ n → j < 16 → at + j * stride + 16 ≤ n
row_ends at stride j n h l =
    let g : j ≤ 15 = omega arith in
    omega (arith, mul-le-mul_right stride g)

-- row j, by the two parts that hold it
pub row_is : (a : List ℕ) (at stride : ℕ) (b : List ℕ) (from across j : ℕ)
    → sum_below (λ k. distance (get_or (mid_of (at + j * stride) 16 a) k 0) (get_or (mid_of (from + j * across) 16 b) k 0)) 16 ≡ row_apart a at stride b from across j
unfolding row_apart
row_is a at stride b from across j =
    sum_same _ _ 16 (λ k h. rw (mid_at (at + j * stride) 16 a k h, mid_at (from + j * across) 16 b k h))
