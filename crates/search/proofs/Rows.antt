-- The SAD of a macroblock by its rows, wherever they stand. Assumes nothing.
use Rattle.std.proofs.Common.{◌≡◌, ap, ◌∙◌, List, ℕ, ◌+◌, ◌*◌, ◌<◌, add-mul, arith, get_or}
use borrow.Rule.Slice.PartMut.{mid_of}
use Rattle.laws.specs.Sums.{sum_below}
use Rattle.laws.proofs.Sums.{sum_same, sum_more, sum_plus, sum_rows}
use Rattle.laws.proofs.Slices.{mid_at}
use Rattle.prediction.specs.Samples.{distance}
use Rattle.prediction.specs.Internal.{row_apart}
use Rattle.prediction.proofs.Rows.{row_is}
use Rattle.search.specs.Sad.{sad16, row_sad}
use Rattle.search.specs.Internal.{two_apart}

-- the SAD of two blocks is the sum of their 16 rows
pub sad-rows : (src block : List ℕ) → sad16 src block ≡ sum_below (row_sad src block) 16
unfolding sad16 row_sad
sad-rows src block = sum_rows (λ i. distance (get_or src i 0) (get_or block i 0)) 16 16

-- rows that follow one another are the block's own
pub row-packed : (src block : List ℕ) (j : ℕ) → row_apart src 0 16 block 0 16 j ≡ row_sad src block j
unfolding row_apart row_sad
row-packed src block j =
    let z : 0 + j * 16 ≡ j * 16 = omega arith in
    ap (λ (n : ℕ). sum_below (λ k. distance (get_or src (n + k) 0) (get_or block (n + k) 0)) 16) z

-- a row of a block and of a plane, by the two parts that hold it
pub row_here : (src plane : List ℕ) (at stride r i j : ℕ) → i ≡ r * 16 → j ≡ at + r * stride
    → sum_below (λ k. distance (get_or (mid_of i 16 src) k 0) (get_or (mid_of j 16 plane) k 0)) 16 ≡ row_apart src 0 16 plane at stride r
row_here src plane at stride r i j e f =
    let z : i ≡ 0 + r * 16 = omega arith in
    rw (z, f) (row_is src 0 16 plane at stride r)

-- two rows more of a block and of a plane
pub rows_more : (src plane : List ℕ) (at stride r s v : ℕ) → s ≡ sum_below (row_apart src 0 16 plane at stride) r
    → v ≡ sum_below (two_apart (mid_of (r * 16) 32 src) (mid_of (at + r * stride) 16 plane) (mid_of (at + r * stride + stride) 16 plane)) 16
    → s + v ≡ sum_below (row_apart src 0 16 plane at stride) (r + 2)
unfolding row_apart
rows_more src plane at stride r s v e f =
    let split = f ∙ sum_plus one two 16 in
    let a = sum_more (row_apart src 0 16 plane at stride) r (sum_below one 16) s e (sum_same one _ 16 first) in
    let b = sum_more (row_apart src 0 16 plane at stride) (r + 1) (sum_below two 16) _ a (sum_same two _ 16 second) in
    let both : r + 1 + 1 ≡ r + 2 = omega arith in
    beside split ∙ (rw both at b)
  where
    one : ℕ → ℕ
    one k = distance (get_or (mid_of (r * 16) 32 src) k 0) (get_or (mid_of (at + r * stride) 16 plane) k 0)

    two : ℕ → ℕ
    two k = distance (get_or (mid_of (r * 16) 32 src) (k + 16) 0) (get_or (mid_of (at + r * stride + stride) 16 plane) k 0)

    beside : v ≡ sum_below one 16 + sum_below two 16 → s + v ≡ s + sum_below one 16 + sum_below two 16
    beside h = omega arith

    first : (k : ℕ) → k < 16 → one k ≡ distance (get_or src (0 + r * 16 + k) 0) (get_or plane (at + r * stride + k) 0)
    first k h =
        let z : 0 + r * 16 + k ≡ r * 16 + k = omega arith in
        rw (z, mid_at (r * 16) 32 src k (omega arith), mid_at (at + r * stride) 16 plane k h)

    second : (k : ℕ) → k < 16 → two k ≡ distance (get_or src (0 + (r + 1) * 16 + k) 0) (get_or plane (at + (r + 1) * stride + k) 0)
    second k h =
        let z : 0 + (r + 1) * 16 + k ≡ r * 16 + (k + 16) = omega arith in
        let t : at + (r + 1) * stride ≡ at + r * stride + stride = omega (arith, add-mul r 1 stride) in
        rw (z, t, mid_at (r * 16) 32 src (k + 16) (omega arith), mid_at (at + r * stride + stride) 16 plane k h)
