-- What the private functions of `motion_search` ask and promise. No public contract uses these definitions. Assumes nothing.
use Rattle.std.specs.Prelude.{◌≡◌, false, cond, List, ℕ, ◌+◌, ◌-◌, ◌*◌, ◌%◌, ◌≤◌, ◌<◌, eqb, ℤ, pos, nat_abs, length, get_or}
use Rattle.laws.specs.Signed.{above, below, minus}
use Rattle.prediction.specs.declared.motion_vector.Mv.{Mv}
use Rattle.prediction.specs.Samples.{distance}
use Rattle.prediction.specs.Vector.{doubled, stored_mv, fraction_of}
use Rattle.prediction.specs.Plane.{Plane, luma_plane, sample_at}
use Rattle.prediction.specs.Filter.{FilterRows}
use Rattle.prediction.specs.Prediction.{macroblock_of, offset_by, predicted_mb}
use Rattle.prediction.specs.Refusals.{bad_size, short_plane}
use Rattle.prediction.specs.Internal.{row_apart}
use Rattle.search.specs.declared.Site.{Site}
use Rattle.search.specs.declared.DiamondResult.{DiamondResult}
use Rattle.search.specs.Refusals.{bad_macroblock}
use Rattle.search.specs.Sad.{row_sad, cost_in, cost_of}

-- the reference plane of a site, and the cost of a vector there
abbrev pub plane_of : List ℕ → Site → Plane
plane_of bytes s = luma_plane bytes s.stride s.width s.height

abbrev pub cost_at : List ℕ → Site → List ℕ → Mv → ℕ
cost_at bytes s src = cost_of (plane_of bytes s) s.column s.row src

-- by a filter set
abbrev pub cost_by : FilterRows → List ℕ → Site → List ℕ → Mv → ℕ
cost_by set bytes s src = cost_in set (plane_of bytes s) s.column s.row src

-- the block at a vector in eighths, copied and predicted
abbrev pub copied_at : List ℕ → Site → Mv → List ℕ
copied_at bytes s v = macroblock_of (offset_by (16 * s.column) (16 * s.row) v (sample_at (plane_of bytes s)))

abbrev pub predicted_from : FilterRows → List ℕ → Site → Mv → List ℕ
predicted_from set bytes s v = predicted_mb set (sample_at (plane_of bytes s)) (16 * s.column) (16 * s.row) v

-- row j of the cost of a vector at a site
abbrev pub cost_row : FilterRows → List ℕ → Site → List ℕ → Mv → ℕ → ℕ
cost_row set bytes s src v = row_sad src (predicted_from set bytes s (stored_mv v))

-- none of 8, 9 and 10 applies, and the source is a block
pub record Ready (bytes : List ℕ) (s : Site) (src : List ℕ) : Type 0 where
  pub size : bad_size (plane_of bytes s) ≡ false
  pub long : short_plane (plane_of bytes s) ≡ false
  pub place : bad_macroblock s.column s.row ≡ false
  pub source : length src ≡ 256

-- a vector that can be measured
pub record InRange (v : Mv) : Type 0 where
  pub row : nat_abs v.row ≤ 1023
  pub col : nat_abs v.col ≤ 1023

-- a vector whose prediction is a copy: no fractions
pub record Copied (v : Mv) : Type 0 where
  pub row : fraction_of (doubled v.row) ≡ 0
  pub col : fraction_of (doubled v.col) ≡ 0

-- 16 coordinates, less 4096, among 0 .. n - 1
pub record Inside (start n : ℕ) : Type 0 where
  pub least : 4096 ≤ start
  pub most : start - 4096 + 16 ≤ n

-- the 16 rows of a block that is copied by a vector in eighths stand in the bytes, a stride apart, from a place on
pub record Lying (bytes : List ℕ) (s : Site) (v : Mv) (at : ℕ) : Type 0 where
  pub ends : at + 15 * s.stride + 16 ≤ length bytes
  pub row : (src : List ℕ) (j : ℕ) → j < 16 → row_apart src 0 16 bytes at s.stride j ≡ row_sad src (copied_at bytes s v) j

-- a component of a whole vector in range: a multiple of 4, from -1020 to 1020
pub record Grid (z : ℤ) : Type 0 where
  pub up : above z ≤ 1020
  pub dn : below z ≤ 1020
  pub up4 : above z % 4 ≡ 0
  pub dn4 : below z % 4 ≡ 0

pub record Whole (v : Mv) : Type 0 where
  pub row : Grid v.row
  pub col : Grid v.col

-- how far neighbour k of a round lies along one axis: down with first 0, to the right with first 2; the neighbours 0 to 3 are up, down, left, right
abbrev pub step_at : ℕ → ℕ → ℤ
step_at first k = cond (eqb k first) (minus 4) (cond (eqb k (first + 1)) (pos 4) (pos 0))

-- a best so far: on the grid, with its own SAD
pub record Good (cost : Mv → ℕ) (best : DiamondResult) : Type 0 where
  pub grid : Whole best.mv
  pub measured : best.sad ≡ cost best.mv

-- there is room for a step on all sides
pub record Room (step : ℕ) (v : Mv) : Type 0 where
  pub row : nat_abs v.row + step ≤ 1023
  pub col : nat_abs v.col + step ≤ 1023

-- the differences at column k of two rows of a block, which follow one another, and two rows of a plane
abbrev pub two_apart : List ℕ → List ℕ → List ℕ → ℕ → ℕ
two_apart a b c k = distance (get_or a k 0) (get_or b k 0) + distance (get_or a (k + 16) 0) (get_or c k 0)
