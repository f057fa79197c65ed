-- Acceptance on three planes as the code finds it: planes measured up to 13 times their area, copied or filtered. Assumes nothing.
use Rattle.std.proofs.Common.{◌≡◌, refl, sym, ap, ◌∙◌, Bool, true, false, cond, ◌&&◌, List, ℕ, ◌+◌, ◌-◌, ◌*◌, ◌≤◌, ◌<◌, min, add-mul, arith, lt-ltb, le-ltb, ltb, ℤ, pos, ◌+ℤ◌, length, get_or, take, drop, length-drop, get_or-drop}
use Rattle.std.proofs.Math.Decide.{dec_lt}
use Rattle.std.proofs.Math.Seq.{take-length}
use borrow.Rule.Slice.PartMut.{mid_of}
use Rattle.laws.specs.Sums.{sum_below}
use Rattle.laws.proofs.Slices.{mid_at}
use Rattle.laws.proofs.Sums.{sum_same}
use Rattle.prediction.specs.declared.ceiling.Ceiled.{Ceiled}
use Rattle.prediction.specs.Samples.{distance}
use Rattle.prediction.specs.Plane.{Samples, sample_at, nearest_in}
use Rattle.prediction.specs.Prediction.{square_of}
use Rattle.prediction.specs.Ceiled.{CeiledIs}
use Rattle.prediction.proofs.Ceilings.{lesser}
use Rattle.window.specs.declared.Frame.{Frame}
use Rattle.denoiser.specs.declared.Block.{Block}
use Rattle.denoiser.specs.declared.Choice.{Choice}
use Rattle.denoiser.specs.declared.Displacement.{Displacement}
use Rattle.denoiser.specs.declared.PlaneNumbers.{PlaneNumbers}
use Rattle.denoiser.specs.Grid.{grid_block, block_in}
use Rattle.denoiser.specs.Search.{sad_of, displaced_by, displacement_in}
use Rattle.denoiser.specs.Window.{Picture, Scene, displacement_of, sad_accepted, block_accepted}
use Rattle.denoiser.specs.Chroma.{half_sample, sample_in, plane_sad, plane_passes, three_accepted, chosen_accepts}
use Rattle.denoiser.specs.Pictures.{picture_of}
use Rattle.denoiser.specs.Internal.{Fits, Runs, Lies, row_distance, eight_apart, plane_in, packed_plane, luma_row, sad_row, block_samples, filtered_in, passes_by, chroma_passes}
use Rattle.denoiser.proofs.Ceilings.{moved, moved_inside, across_from}
use Rattle.denoiser.proofs.Halves.{filtered_is, copied_is, chroma_alike, block_holds}
use Rattle.denoiser.proofs.Pictures.{picture-byte}
use Rattle.denoiser.proofs.Planes.{sample-below, row_below, packed-at, displaced_at_lem}
use Rattle.denoiser.proofs.Three.{luma_passes}

-- the lesser of a sum and the limit is below the limit where the sum is
below-min : (n m : ℕ) → ltb (min n m) m ≡ ltb n m
below-min n m = by (dec_lt n m)
  where
    by : Dec (n < m) → ltb (min n m) m ≡ ltb n m
    by (yes l) = lt-ltb (min n m) m (omega arith) ∙ sym (lt-ltb n m l)
    by (no g) = le-ltb (min n m) m (omega arith) ∙ sym (le-ltb n m (omega arith))

-- measured up to 13 times the area: a sum that reaches it does not pass, one below it is the SAD
pub ceiled_passes : (centre samples : Samples) (r : Block) (c : Ceiled) → CeiledIs (sad_row centre samples r) r.rows (13 * (r.columns * r.rows)) c
    → ltb c.sad (13 * (r.columns * r.rows)) ≡ passes_by centre samples r
unfolding passes_by sad_of sad_row
ceiled_passes centre samples r c i =
    ap (λ (n : ℕ). ltb n (13 * (r.columns * r.rows))) (lesser (sad_row centre samples r) r.rows (13 * (r.columns * r.rows)) c i)
    ∙ below-min (sad_of centre samples r) (13 * (r.columns * r.rows))

-- what a slice holds from a place on, to its end
pub rest_is : (at : ℕ) (out : List ℕ) → take (length out - at) (drop at out) ≡ drop at out
rest_is at out = ap (λ (n : ℕ). take n (drop at out)) (sym (length-drop at out)) ∙ take-length (drop at out)

-- two questions where a choice asks them: the second is asked where the first holds
pub asked-both : (t a b r : Bool) → t ≡ true → a ≡ true → r ≡ b → r ≡ cond t (a && b) true
asked-both t a b r et ea e = rw (et, ea) e

pub asked-first : (t a b : Bool) → t ≡ true → a ≡ false → false ≡ cond t (a && b) true
asked-first t a b et ea = rw (et, ea)

pub not-asked : (t a : Bool) → t ≡ false → true ≡ cond t a true
not-asked t a e = rw e

-- the rows of a plane that stands packed in a list from `at` on
pub rows_from : (out bytes : List ℕ) (p : PlaneNumbers) (b : Block) (d : Displacement) (at i : ℕ)
    → luma_row (drop at out) bytes p b d i ≡ sad_row (sample_at (packed_plane at p.columns p.rows out)) (displaced_by d (sample_at (plane_in bytes p))) b i
unfolding luma_row sad_row sample_at
rows_from out bytes p b d at i =
    sum_same _ _ b.columns (λ j h.
    ap (λ (t : ℕ). distance t (displaced_by d (sample_at (plane_in bytes p)) (pos (b.x + j)) (pos (b.y + i)))) (there (pos (b.x + j)) (pos (b.y + i))))
  where
    there : (x y : ℤ) → sample_at (packed_plane 0 p.columns p.rows (drop at out)) x y ≡ sample_at (packed_plane at p.columns p.rows out) x y
    there x y =
        get_or-drop at out (0 + nearest_in p.rows y * p.columns + nearest_in p.columns x) 0
        ∙ ap (λ (t : ℕ). get_or out t 0) (omega arith)

-- row r of two blocks of 8 columns, by the two parts that hold it
pub eight_is : (a : List ℕ) (at stride : ℕ) (b : List ℕ) (from across r : ℕ)
    → sum_below (row_distance (mid_of (at + r * stride) 8 a) (mid_of (from + r * across) 8 b)) 8 ≡ eight_apart a at stride b from across r
unfolding eight_apart row_distance
eight_is a at stride b from across r =
    sum_same _ _ 8 (λ k h. rw (mid_at (at + r * stride) 8 a k h, mid_at (from + r * across) 8 b k h))

-- a sample of the packed plane, k columns and r rows past the block's first
packed_from : (at c rows x y k r : ℕ) (out : List ℕ) → x + k < c → y + r < rows
    → get_or out (at + y * c + x + r * c + k) 0 ≡ sample_at (packed_plane at c rows out) (pos (x + k)) (pos (y + r))
packed_from at c rows x y k r out hx hy =
    ap (λ (t : ℕ). get_or out t 0) (rw (add-mul y r c) (omega arith)) ∙ sym (packed-at at c rows out (x + k) (y + r) hx hy)

-- a block of 8 columns that lies in the plane once moved: its rows stand a stride apart from its first sample on
module _ (out bytes : List ℕ) (p : PlaneNumbers) (b : Block) (d : Displacement) (at left top : ℕ)
    (x_is : left ≡ nearest_in p.columns (pos b.x +ℤ d.dx)) (y_is : top ≡ nearest_in p.rows (pos b.y +ℤ d.dy))
    (wide : Runs b.x 8 d.dx p.columns) (high : Runs b.y b.rows d.dy p.rows)
    (eight : b.columns ≡ 8) (l : Lies b p.columns p.rows) where
  pub eight_there : Fits bytes p → (r : ℕ) → r < b.rows → p.start + top * p.stride + left + r * p.stride + 8 ≤ length bytes
  eight_there f r h =
      let last = sample-below bytes p f (left + 7) (top + r) (moved_inside 8 p.columns b.x left 7 d.dx x_is wide (omega arith)) (moved_inside b.rows p.rows b.y top r d.dy y_is high h) in
      let across : (top + r) * p.stride ≡ top * p.stride + r * p.stride = add-mul top r p.stride in
      omega (arith, last, across)

  pub eight_placed : (r : ℕ) → r < b.rows
      → eight_apart out (at + b.y * p.columns + b.x) p.columns bytes (p.start + top * p.stride + left) p.stride r
      ≡ sad_row (sample_at (packed_plane at p.columns p.rows out)) (displaced_by d (sample_at (plane_in bytes p))) b r
  unfolding eight_apart sad_row
  eight_placed r h = rw eight (sum_same _ _ 8 (λ k g. at_k k g))
    where
      at_k : (k : ℕ) → k < 8
          → distance (get_or out (at + b.y * p.columns + b.x + r * p.columns + k) 0) (get_or bytes (p.start + top * p.stride + left + r * p.stride + k) 0)
          ≡ distance (sample_at (packed_plane at p.columns p.rows out) (pos (b.x + k)) (pos (b.y + r)))
          (displaced_by d (sample_at (plane_in bytes p)) (pos (b.x + k)) (pos (b.y + r)))
      at_k k g =
          ap (λ (t : ℕ). distance t (get_or bytes (p.start + top * p.stride + left + r * p.stride + k) 0))
          (packed_from at p.columns p.rows b.x b.y k r out (omega (arith, l.wide, eight)) (omega (arith, l.high)))
          ∙ ap (λ (t : ℕ). distance (sample_at (packed_plane at p.columns p.rows out) (pos (b.x + k)) (pos (b.y + r))) (get_or bytes t 0)) (across_from p.start top p.stride left r k)
          ∙ ap (distance (sample_at (packed_plane at p.columns p.rows out) (pos (b.x + k)) (pos (b.y + r))))
          (displaced_at_lem bytes p d (b.x + k) (b.y + r) (moved 8 p.columns b.x left k d.dx x_is wide g) (moved b.rows p.rows b.y top r d.dy y_is high h))

-- and the rows of a block of 8 by 8
pub eight_square : (out block : List ℕ) (c rows : ℕ) (b : Block) (at : ℕ) → b.columns ≡ 8 → Lies b c rows → (r : ℕ) → r < b.rows
    → eight_apart out (at + b.y * c + b.x) c block 0 8 r ≡ sad_row (sample_at (packed_plane at c rows out)) (block_samples block b.x b.y) b r
unfolding eight_apart sad_row block_samples
eight_square out block c rows b at eight l r h = rw eight (sum_same _ _ 8 (λ k g. at_k k g))
  where
    at_k : (k : ℕ) → k < 8
        → distance (get_or out (at + b.y * c + b.x + r * c + k) 0) (get_or block (0 + r * 8 + k) 0)
        ≡ distance (sample_at (packed_plane at c rows out) (pos (b.x + k)) (pos (b.y + r))) (get_or block ((b.y + r - b.y) * 8 + (b.x + k - b.x)) 0)
    at_k k g =
        let place : 0 + r * 8 + k ≡ (b.y + r - b.y) * 8 + (b.x + k - b.x) = omega arith in
        ap (λ (t : ℕ). distance t (get_or block (0 + r * 8 + k) 0)) (packed_from at c rows b.x b.y k r out (omega (arith, l.wide, eight)) (omega (arith, l.high)))
        ∙ ap (λ (t : ℕ). distance (sample_at (packed_plane at c rows out) (pos (b.x + k)) (pos (b.y + r))) (get_or block t 0)) place

-- the first row of either ends within the packed plane
pub eight_ends : (at c rows n : ℕ) (b : Block) → b.columns ≡ 8 → Lies b c rows → at + c * rows ≤ n → (r : ℕ) → r < b.rows → at + b.y * c + b.x + r * c + 8 ≤ n
eight_ends at c rows n b eight l h r less =
    let across : (b.y + r) * c ≡ b.y * c + r * c = add-mul b.y r c in
    omega (arith, h, across, row_below c rows b.x (b.y + r) 8 (omega (arith, l.wide, eight)) (omega (arith, l.high)))

-- the test looks at the rectangle only
pub passes_same : (centre s t : Samples) (r : Block)
    → ((x y : ℕ) → r.x ≤ x → x < r.x + r.columns → r.y ≤ y → y < r.y + r.rows → s (pos x) (pos y) ≡ t (pos x) (pos y))
    → passes_by centre s r ≡ passes_by centre t r
unfolding passes_by sad_of
passes_same centre s t r h =
    ap (sad_accepted r) (sum_same _ _ r.rows (λ j hj. sum_same _ _ r.columns (λ i hi.
    ap (distance (centre (pos (r.x + i)) (pos (r.y + j)))) (h (r.x + i) (r.y + j) (omega arith) (omega arith) (omega arith) (omega arith)))))

-- U and V by the choice: copied samples where the block is not filtered, the two blocks of 8 by 8 where it is
module _ (o : Choice) (centre : Picture) (bytes : List ℕ) (f : Frame) (b : Block) (d : Displacement) where
  copied : (k : ℕ) → filtered_in o.half_sample k d ≡ false → ((i : ℕ) → get_or bytes i 0 < 256)
      → passes_by (centre k) (displaced_by (displacement_in k d) (picture_of bytes f k)) (block_in k b)
      ≡ passes_by (centre k) (sample_in o.half_sample k d (picture_of bytes f k)) (block_in k b)
  copied k e byte =
      passes_same (centre k) _ _ (block_in k b)
      (λ x y l r t u. sym (copied_is o.half_sample k d (picture_of bytes f k) e (picture-byte bytes f byte k) (pos x) (pos y)))

  pub copies_are : filtered_in o.half_sample 1 d ≡ false → ((i : ℕ) → get_or bytes i 0 < 256)
      → cond o.three_planes
      (passes_by (centre 1) (displaced_by (displacement_in 1 d) (picture_of bytes f 1)) (block_in 1 b) && passes_by (centre 2) (displaced_by (displacement_in 2 d) (picture_of bytes f 2)) (block_in 2 b)) true
      ≡ chroma_passes o centre (picture_of bytes f) b d
  unfolding chroma_passes
  copies_are e byte =
      ap (λ (t : Bool). cond o.three_planes (t && passes_by (centre 2) (displaced_by (displacement_in 2 d) (picture_of bytes f 2)) (block_in 2 b)) true) (copied 1 e byte)
      ∙ ap (λ (t : Bool). cond o.three_planes (passes_by (centre 1) (sample_in o.half_sample 1 d (picture_of bytes f 1)) (block_in 1 b) && t) true)
      (copied 2 (sym (chroma_alike o.half_sample d) ∙ e) byte)

  module _ (slim : b.columns ≤ 16) (low : b.rows ≤ 16) where
    square : (k : ℕ) (block : List ℕ) → (block_in k b).columns ≤ 8 → (block_in k b).rows ≤ 8 → filtered_in o.half_sample k d ≡ true
        → block ≡ square_of 8 (pos (block_in k b).x) (pos (block_in k b).y) (half_sample d (picture_of bytes f k))
        → passes_by (centre k) (block_samples block (block_in k b).x (block_in k b).y) (block_in k b)
        ≡ passes_by (centre k) (sample_in o.half_sample k d (picture_of bytes f k)) (block_in k b)
    square k block h v e is =
        passes_same (centre k) _ _ (block_in k b)
        (λ x y l r t u. block_holds d (picture_of bytes f k) (block_in k b).x (block_in k b).y block is x y l (omega arith) t (omega arith))
        ∙ ap (λ (s : Samples). passes_by (centre k) s (block_in k b)) (sym (filtered_is o.half_sample k d (picture_of bytes f k) e))

    pub squares_are : (u v : List ℕ) → filtered_in o.half_sample 1 d ≡ true
        → u ≡ square_of 8 (pos (block_in 1 b).x) (pos (block_in 1 b).y) (half_sample d (picture_of bytes f 1))
        → v ≡ square_of 8 (pos (block_in 2 b).x) (pos (block_in 2 b).y) (half_sample d (picture_of bytes f 2))
        → cond o.three_planes
        (passes_by (centre 1) (block_samples u (block_in 1 b).x (block_in 1 b).y) (block_in 1 b) && passes_by (centre 2) (block_samples v (block_in 2 b).x (block_in 2 b).y) (block_in 2 b)) true
        ≡ chroma_passes o centre (picture_of bytes f) b d
    unfolding chroma_passes
    squares_are u v e first second =
        ap (λ (t : Bool). cond o.three_planes (t && passes_by (centre 2) (block_samples v (block_in 2 b).x (block_in 2 b).y) (block_in 2 b)) true)
        (square 1 u (omega arith) (omega arith) e first)
        ∙ ap (λ (t : Bool). cond o.three_planes (passes_by (centre 1) (sample_in o.half_sample 1 d (picture_of bytes f 1)) (block_in 1 b) && t) true)
        (square 2 v (omega arith) (omega arith) (sym (chroma_alike o.half_sample d) ∙ e) second)

-- a block that luma accepts is accepted as U and V pass; one that luma excludes is not
module _ (o : Choice) (s : Scene) (f : Picture) (i j : ℕ) where
  pub by_chroma : block_accepted s f i j ≡ true → chosen_accepts o s f i j ≡ chroma_passes o s.centre f (grid_block s.width s.height i j) (displacement_of s f i j)
  unfolding chosen_accepts chroma_passes three_accepted plane_passes plane_sad passes_by
  by_chroma e =
      ap (λ (t : Bool). cond o.three_planes (t && (plane_passes o.half_sample s f i j 1 && plane_passes o.half_sample s f i j 2)) (block_accepted s f i j))
      (luma_passes o.half_sample s f i j ∙ e)
      ∙ ap (λ (t : Bool). cond o.three_planes (plane_passes o.half_sample s f i j 1 && plane_passes o.half_sample s f i j 2) t) e

  pub by_luma : block_accepted s f i j ≡ false → chosen_accepts o s f i j ≡ false
  unfolding chosen_accepts three_accepted
  by_luma e =
      ap (λ (t : Bool). cond o.three_planes (t && (plane_passes o.half_sample s f i j 1 && plane_passes o.half_sample s f i j 2)) (block_accepted s f i j))
      (luma_passes o.half_sample s f i j ∙ e)
      ∙ ap (cond o.three_planes false) e ∙ neither o.three_planes
    where
      neither : (t : Bool) → cond t false false ≡ false
      neither true = refl
      neither false = refl
