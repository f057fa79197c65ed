-- The SAD of a block up to a ceiling, and a block search that is cut short by the best so far. Assumes nothing.
use Rattle.std.proofs.Common.{◌≡◌, refl, sym, ap, ◌∙◌, List, ℕ, ◌+◌, ◌*◌, ◌≤◌, ◌<◌, min, add-mul, arith, ℤ, pos, ◌+ℤ◌, get_or}
use Rattle.laws.specs.Sums.{sum_below}
use Rattle.laws.proofs.Signed.{sum}
use Rattle.laws.proofs.Sums.{sum_same, sum-most}
use Rattle.laws.proofs.Best.{best_up_to, cut-short-same as best-same}
use Rattle.prediction.specs.declared.ceiling.Ceiled.{Ceiled}
use Rattle.prediction.specs.Samples.{distance}
use Rattle.prediction.specs.Plane.{sample_at, nearest_in}
use Rattle.prediction.specs.Internal.{row_apart}
use Rattle.prediction.specs.Ceiled.{CeiledIs}
use Rattle.prediction.proofs.Ceilings.{lesser}
use Rattle.denoiser.specs.declared.Block.{Block}
use Rattle.denoiser.specs.declared.Displacement.{Displacement}
use Rattle.denoiser.specs.declared.PlaneNumbers.{PlaneNumbers}
use Rattle.denoiser.specs.Search.{sad_of, displaced_by, neighbour_of, block_search, still}
use Rattle.denoiser.specs.Internal.{Runs, Lies, plane_in, packed_plane, luma_cost, luma_row, step_best}
use Rattle.denoiser.proofs.Planes.{luma_at, displaced_at_lem, sample-byte}
use Rattle.denoiser.proofs.Searches.{search_steps}

module _ (centre bytes : List ℕ) (p : PlaneNumbers) (b : Block) (d : Displacement) where
  -- the SAD of a block is the sum of its rows, as they are cut at the picture's edge
  pub luma_rows : luma_cost centre bytes p b d ≡ sum_below (luma_row centre bytes p b d) b.rows
  unfolding luma_cost luma_row sad_of
  luma_rows = refl

  -- it is at most 65280
  module _ (l : Lies b p.columns p.rows) (u : (k : ℕ) → get_or centre k 0 < 256) (v : (k : ℕ) → get_or bytes k 0 < 256) where
    apart : ℕ → ℕ → ℕ
    apart i j =
        distance (sample_at (packed_plane 0 p.columns p.rows centre) (pos (b.x + j)) (pos (b.y + i)))
        (displaced_by d (sample_at (plane_in bytes p)) (pos (b.x + j)) (pos (b.y + i)))

    row-most : (i : ℕ) → luma_row centre bytes p b d i ≤ 4080
    unfolding luma_row apart
    row-most i = omega (arith, sum-most (apart i) b.columns 255 most, l.slim)
      where
        most : (j : ℕ) → apart i j ≤ 255
        most j =
            omega (
              arith,
              sample-byte (packed_plane 0 p.columns p.rows centre) u (pos (b.x + j)) (pos (b.y + i)),
              sample-byte (plane_in bytes p) v (pos (b.x + j) +ℤ d.dx) (pos (b.y + i) +ℤ d.dy),
            )

    luma_most : luma_cost centre bytes p b d ≤ 65280
    luma_most = omega (arith, luma_rows, sum-most (luma_row centre bytes p b d) b.rows 4080 row-most, l.low)

  -- what the search reads of a displacement: the lesser of its SAD and the ceiling; at 65281 or more, the SAD
  module _ (ceiling : ℕ) (r : Ceiled) (i : CeiledIs (luma_row centre bytes p b d) b.rows ceiling r) where
    pub luma_read : r.sad ≡ min (luma_cost centre bytes p b d) ceiling
    luma_read = lesser (luma_row centre bytes p b d) b.rows ceiling r i ∙ ap (λ (n : ℕ). min n ceiling) (sym luma_rows)

    pub luma_whole : Lies b p.columns p.rows → ((k : ℕ) → get_or centre k 0 < 256) → ((k : ℕ) → get_or bytes k 0 < 256) → 65281 ≤ ceiling
        → r.sad ≡ luma_cost centre bytes p b d
    luma_whole l u v h = omega (arith, luma_read, luma_most l u v)

-- m coordinates that all lie in a plane once moved are all moved as far as their first, and are inside; and a row's place, seen from the block's
pub moved : (m n x a k : ℕ) (v : ℤ) → a ≡ nearest_in n (pos x +ℤ v) → Runs x m v n → k < m → a + k ≡ nearest_in n (pos (x + k) +ℤ v)
moved m n x a k v e r h = omega (arith, (sum (pos x) v).up, (sum (pos (x + k)) v).up, r.left, r.right)

pub moved_inside : (m n x a k : ℕ) (v : ℤ) → a ≡ nearest_in n (pos x +ℤ v) → Runs x m v n → k < m → a + k < n
moved_inside m n x a k v e r h = omega (arith, e, (sum (pos x) v).up, r.left, r.right)

pub across_from : (s t w u j k : ℕ) → s + t * w + u + j * w + k ≡ s + (t + j) * w + (u + k)
across_from s t w u j k = rw (add-mul t j w) (omega arith)

-- a block of 16 by 16 that lies in the plane once moved: its rows stand a stride apart from its first sample on
module _ (centre bytes : List ℕ) (p : PlaneNumbers) (b : Block) (d : Displacement) (left top : ℕ)
    (x_is : left ≡ nearest_in p.columns (pos b.x +ℤ d.dx)) (y_is : top ≡ nearest_in p.rows (pos b.y +ℤ d.dy))
    (wide : Runs b.x 16 d.dx p.columns) (high : Runs b.y 16 d.dy p.rows)
    (square : (b.columns ≡ 16) × (b.rows ≡ 16)) (l : Lies b p.columns p.rows) where
  pub in_bounds : (left + 15 < p.columns) × (top + 15 < p.rows)
  in_bounds = (
    moved_inside 16 p.columns b.x left 15 d.dx x_is wide (omega arith),
    moved_inside 16 p.rows b.y top 15 d.dy y_is high (omega arith),
  )

  across : (t w u j k : ℕ) → t * w + u + j * w + k ≡ (t + j) * w + (u + k)
  across t w u j k = rw (add-mul t j w) (omega arith)

  pub row-placed : (j : ℕ) → j < 16
      → row_apart centre (b.y * p.columns + b.x) p.columns bytes (p.start + top * p.stride + left) p.stride j ≡ luma_row centre bytes p b d j
  unfolding row_apart luma_row
  row-placed j h = rw square.0 (sum_same _ _ 16 (λ k g. at k g))
    where
      at : (k : ℕ) → k < 16
          → distance (get_or centre (b.y * p.columns + b.x + j * p.columns + k) 0) (get_or bytes (p.start + top * p.stride + left + j * p.stride + k) 0)
          ≡ distance (sample_at (packed_plane 0 p.columns p.rows centre) (pos (b.x + k)) (pos (b.y + j)))
          (displaced_by d (sample_at (plane_in bytes p)) (pos (b.x + k)) (pos (b.y + j)))
      at k g =
          rw (across b.y p.columns b.x j k, across_from p.start top p.stride left j k)
          (ap (λ (s : ℕ). distance s (get_or bytes (p.start + (top + j) * p.stride + (left + k)) 0))
          (sym (luma_at p.columns p.rows centre (b.x + k) (b.y + j) (omega (arith, l.wide, square.0)) (omega (arith, l.high, square.1))))
          ∙ ap (distance (sample_at (packed_plane 0 p.columns p.rows centre) (pos (b.x + k)) (pos (b.y + j))))
          (displaced_at_lem bytes p d (b.x + k) (b.y + j) (moved 16 p.columns b.x left k d.dx x_is wide g) (moved 16 p.rows b.y top j d.dy y_is high h)))

-- the block search cut short: a displacement is read up to the best SAD
abbrev pub step_up_to : (Displacement → ℕ) → ℕ → Displacement → Displacement
step_up_to cost step best = best_up_to cost best (neighbour_of best step) 8

abbrev pub search_up_to : (Displacement → ℕ) → Displacement
search_up_to cost = step_up_to cost 1 (step_up_to cost 2 (step_up_to cost 4 (step_up_to cost 8 still)))

-- it gives what the search gives, over any cost
module _ (cost : Displacement → ℕ) where
  step_same : (step : ℕ) (best : Displacement) → step_up_to cost step best ≡ step_best cost step best
  unfolding step_best
  step_same step best = best-same cost best (neighbour_of best step) 8

  pub cut-short-same : search_up_to cost ≡ block_search cost
  cut-short-same =
      rw (
        step_same 8 still,
        step_same 4 (step_best cost 8 still),
        step_same 2 (step_best cost 4 (step_best cost 8 still)),
        step_same 1 (step_best cost 2 (step_best cost 4 (step_best cost 8 still))),
      )
      (sym (search_steps cost))
