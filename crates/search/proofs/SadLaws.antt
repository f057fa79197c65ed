-- The SAD of a macroblock: its bound, and the ways in which code finds it. Assumes nothing.
use Rattle.std.proofs.Common.{◌≡◌, sym, ap, false, List, ℕ, ◌+◌, ◌-◌, ◌*◌, ◌/◌, ◌%◌, ◌≤◌, ◌<◌, min, add-mul, mul-le-mul_right, arith, le-ltb, ℤ, pos, ◌+ℤ◌, ◌*ℤ◌, length, get_or}
use Rattle.std.proofs.Math.Decide.{dec_lt}
use Rattle.std.proofs.Math.ListN.{get_or-eq_default}
use Rattle.laws.specs.Signed.{above, below}
use Rattle.laws.proofs.Signed.{floor, times, diff, one-zero, less_of, less-pos, less-sum, above-less}
use Rattle.laws.proofs.Tabulate.{length-tabulate}
use Rattle.laws.proofs.Sums.{sum_same, sum-most}
use Rattle.laws.specs.Outcome.{first_of}
use Rattle.prediction.specs.declared.motion_vector.Mv.{Mv}
use Rattle.prediction.specs.Samples.{distance}
use Rattle.prediction.specs.Vector.{whole_of, fraction_of, stored_mv}
use Rattle.prediction.specs.Plane.{Samples, Plane, sample_at}
use Rattle.prediction.specs.Filter.{FilterRows, sixtap}
use Rattle.prediction.specs.Prediction.{square_of, macroblock_of, halo_of, offset_by, predicted_mb, filtered_mb}
use Rattle.prediction.specs.Refusals.{bad_origin, block_of}
use Rattle.prediction.specs.Internal.{row_apart}
use Rattle.fetch.specs.Refusals.{fetch_lines}
use Rattle.filters.specs.Sets.{Identity}
use Rattle.filters.specs.Refusals.{filter_lines}
use Rattle.filters.proofs.Laws.{square-at, predicted_byte, filtered-halo, whole_copy, sample-byte}
use Rattle.search.specs.declared.Site.{Site}
use Rattle.search.specs.Sad.{sad16, row_sad, cost_in, cost_of}
use Rattle.search.specs.Internal.{plane_of, cost_by, copied_at, predicted_from, Ready, Copied, Inside}
use Rattle.search.proofs.Accepted.{placed}

-- one SAD of samples is at most 65280
pub sad-most : (src block : List ℕ) → ((i : ℕ) → get_or src i 0 < 256) → ((i : ℕ) → get_or block i 0 < 256) → sad16 src block ≤ 65280
unfolding sad16
sad-most src block s b = sum-most _ 256 255 (λ i. omega (arith, s i, b i))

long : (at : Samples) → length (macroblock_of at) ≡ 256
unfolding square_of
long at = length-tabulate 256 _

square-byte : (at : Samples) → ((x y : ℤ) → at x y < 256) → (i : ℕ) → get_or (macroblock_of at) i 0 < 256
square-byte at h i = go (dec_lt i 256)
  where
    go : Dec (i < 256) → get_or (macroblock_of at) i 0 < 256
    go (yes l) = rw (square-at 16 (pos 0) (pos 0) at i l) (h _ _)
    go (no f) = rw (get_or-eq_default (macroblock_of at) 0 {n = i} (omega (arith, long at))) (omega arith)

pub cost_most_in : (set : FilterRows) (plane : Plane) (column row : ℕ) (src : List ℕ) (v : Mv) → ((i : ℕ) → get_or src i 0 < 256)
    → cost_in set plane column row src v ≤ 65280
unfolding cost_in predicted_mb
cost_most_in set plane column row src v h =
    sad-most src _ h (square-byte _ (λ x y. predicted_byte set _ _ _ x y))

pub cost_most : (plane : Plane) (column row : ℕ) (src : List ℕ) (v : Mv) → ((i : ℕ) → get_or src i 0 < 256) → cost_of plane column row src v ≤ 65280
cost_most = cost_most_in sixtap

-- without fractions the prediction is a copy, by every set whose row 0 is the identity
pub copied_mb : (set : FilterRows) → Identity set → (p : Plane) (x y : ℕ) (v : Mv) → fraction_of v.row ≡ 0 → fraction_of v.col ≡ 0
    → ((k : ℕ) → get_or p.bytes k 0 < 256) → macroblock_of (offset_by x y v (sample_at p)) ≡ predicted_mb set (sample_at p) x y v
unfolding predicted_mb
copied_mb set whole p x y v row col h = rw (row, col) (sym (whole_copy set whole _ (λ i j. sample-byte p h _ _)))

pub copied_is : (set : FilterRows) → Identity set → (bytes : List ℕ) (s : Site) (v : Mv) → fraction_of v.row ≡ 0 → fraction_of v.col ≡ 0
    → ((k : ℕ) → get_or bytes k 0 < 256) → copied_at bytes s v ≡ predicted_from set bytes s v
copied_is set whole bytes s v = copied_mb set whole (plane_of bytes s) (16 * s.column) (16 * s.row) v

-- and the cost is the SAD of the copied block
pub cost_copied : (set : FilterRows) → Identity set → (bytes : List ℕ) (s : Site) (src : List ℕ) (v : Mv) → Copied v → ((k : ℕ) → get_or bytes k 0 < 256)
    → sad16 src (copied_at bytes s (stored_mv v)) ≡ cost_by set bytes s src v
unfolding cost_in
cost_copied set whole bytes s src v c h = ap (sad16 src) (copied_is set whole bytes s (stored_mv v) c.row c.col h)

-- the sixteen coordinates of a displaced macroblock; inside, nothing is cut
coordinate : (mb k r : ℕ) (v : ℤ) → r + below (whole_of v) ≡ 16 * mb + 4096 + above (whole_of v) → 4096 ≤ r
    → above (pos 0 +ℤ pos k +ℤ (pos (16 * mb) +ℤ whole_of v)) ≡ r - 4096 + k
coordinate mb k r v e h =
    let g = less-sum (less-sum (less-pos 0) (less-pos k)) (less-sum (less-pos (16 * mb)) (less_of (whole_of v))) in
    omega (arith, above-less g)

uncut : (a n k : ℕ) → a + 16 ≤ n → k < 16 → min (a + k) (n - 1) ≡ a + k
uncut a n k h l = omega arith

placing : (t w l j k : ℕ) → t * w + l + j * w + k ≡ 0 + (t + j) * w + (l + k)
placing t w l j k = rw (add-mul t j w) (omega arith)

-- the SAD of rows of the plane, where the displaced macroblock lies inside
module _ (bytes : List ℕ) (s : Site) (src : List ℕ) (v : Mv) (left top : ℕ)
    (x_is : left + below (whole_of v.col) ≡ 16 * s.column + 4096 + above (whole_of v.col))
    (y_is : top + below (whole_of v.row) ≡ 16 * s.row + 4096 + above (whole_of v.row))
    (wide : Inside left s.width) (high : Inside top s.height) where
  sample-inside : (i : ℕ) → i < 256 → get_or bytes ((top - 4096) * s.stride + (left - 4096) + i / 16 * s.stride + i % 16) 0 ≡ get_or (copied_at bytes s v) i 0
  unfolding sample_at
  sample-inside i h =
      let p : i % 16 < 16 = omega arith in
      let q : i / 16 < 16 = omega arith in
      rw (
        square-at 16 (pos 0) (pos 0) (offset_by (16 * s.column) (16 * s.row) v (sample_at (plane_of bytes s))) i h,
        coordinate s.column (i % 16) left v.col x_is wide.least,
        coordinate s.row (i / 16) top v.row y_is high.least,
        uncut (left - 4096) s.width (i % 16) wide.most p,
        uncut (top - 4096) s.height (i / 16) high.most q,
      )
      (ap (λ (n : ℕ). get_or bytes n 0) (placing (top - 4096) s.stride (left - 4096) (i / 16) (i % 16)))

  pub row_inside : (j : ℕ) → j < 16
      → row_apart src 0 16 bytes ((top - 4096) * s.stride + (left - 4096)) s.stride j ≡ row_sad src (copied_at bytes s v) j
  unfolding row_apart row_sad
  row_inside j h = sum_same _ _ 16 (λ k l. at k l)
    where
      at : (k : ℕ) → k < 16
          → distance (get_or src (0 + j * 16 + k) 0) (get_or bytes ((top - 4096) * s.stride + (left - 4096) + j * s.stride + k) 0)
          ≡ distance (get_or src (j * 16 + k) 0) (get_or (copied_at bytes s v) (j * 16 + k) 0)
      at k l =
          let z : 0 + j * 16 + k ≡ j * 16 + k = omega arith in
          let q : (j * 16 + k) / 16 ≡ j = omega arith in
          let m : (j * 16 + k) % 16 ≡ k = omega arith in
          rw z (ap (distance (get_or src (j * 16 + k) 0)) (rw (q, m) at (sample-inside (j * 16 + k) (omega arith))))

-- the last row ends within the plane
pub ends-inside : (bytes : List ℕ) (s : Site) (left top : ℕ) → Inside left s.width → Inside top s.height
    → (s.height - 1) * s.stride + s.width ≤ length bytes → (top - 4096) * s.stride + (left - 4096) + 15 * s.stride + 16 ≤ length bytes
ends-inside bytes s left top wide high h =
    let g : top - 4096 + 15 ≤ s.height - 1 = omega (arith, high.most) in
    omega (arith, mul-le-mul_right s.stride g, add-mul (top - 4096) 15 s.stride, wide.most)

-- an accepted fetch, and a filter with the fractions of a vector, are not refused
fraction-small : (z : ℤ) → fraction_of z < 8
fraction-small z =
    let f = floor z 7 in
    let t = times (whole_of z) 8 in
    omega (arith, f.up, f.dn, t.up, t.dn, (diff z (whole_of z *ℤ pos 8)).up, one-zero z)

module _ (bytes : List ℕ) (s : Site) (src : List ℕ) (r : Ready bytes s src) where
  origin_fine : bad_origin (16 * s.column) (16 * s.row) ≡ false
  origin_fine =
      let p = placed bytes s src r in
      simp (le-ltb 16368 (16 * s.column) (omega (arith, p.column)), le-ltb 16368 (16 * s.row) (omega (arith, p.row)))

  -- the block beside the answer is the accepted one
  pub fetched_is : (n : ℕ) (a block : List ℕ) → block ≡ block_of n (first_of (fetch_lines (plane_of bytes s) (16 * s.column) (16 * s.row)) a) → block ≡ a
  fetched_is n a block e = simp (r.size, r.long, origin_fine) at e

pub filtered_is : (x y : ℤ) (n : ℕ) (a block : List ℕ) → block ≡ block_of n (first_of (filter_lines (fraction_of x) (fraction_of y)) a) → block ≡ a
filtered_is x y n a block e = simp (le-ltb 7 (fraction_of x) (small x), le-ltb 7 (fraction_of y) (small y)) at e
  where
    small : (z : ℤ) → fraction_of z ≤ 7
    small z = omega (arith, fraction-small z)

-- the filtered halo is the prediction
pub predicted_is : (set : FilterRows) (bytes : List ℕ) (s : Site) (v : Mv)
    → filtered_mb set (fraction_of v.col) (fraction_of v.row) (halo_of (offset_by (16 * s.column) (16 * s.row) v (sample_at (plane_of bytes s)))) ≡ predicted_from set bytes s v
unfolding predicted_mb
predicted_is set bytes s v = filtered-halo set _ _ _
