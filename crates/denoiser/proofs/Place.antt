-- Laws of `Placed`: how what is added to a plane by its parts comes together. Assumes nothing.
use Rattle.std.proofs.Common.{◌≡◌, refl, sym, ap, ◌∙◌, List, ℕ, ◌+◌, ◌-◌, ◌*◌, ◌/◌, ◌%◌, ◌^◌, ◌≤◌, ◌<◌, add-zero, mul-le-mul, mul-le-mul_right, div-add-mod', mod-lt, div-lt_iff_lt-mul, arith, eqb, pos, length, get_or, take, get_or-take, eq-eqb, ne_eqb, le-leb, lt-ltb, le-ltb}
use Rattle.std.proofs.Math.Decide.{dec_lt, dec_le, ℕ_discrete}
use Rattle.std.proofs.lemmas.Bool.{lt-leb}
use borrow.Rule.Slice.PartMut.{put_mid, mid_of, same_len_mid}
use Rattle.laws.proofs.Slices.{mid_at, mid_long, put_before, put_inside, put_after}
use Rattle.prediction.specs.Samples.{distance}
use Rattle.prediction.specs.Plane.{Samples}
use Rattle.denoiser.specs.Window.{gate}
use Rattle.denoiser.specs.Internal.{Room, Light, Raised, Placed, between, row_distance, row_share, row_term, share_by, term_by}
use Rattle.denoiser.proofs.Planes.{row_below}

pub placed_none : (at columns rows : ℕ) (f : ℕ → ℕ → ℕ) (l : List ℕ) → ((x y : ℕ) → f x y ≡ 0) → Placed at columns rows f l l
placed_none at columns rows f l z =
    record { long = refl; inside = λ x y hx hy. let e = z x y in omega arith; before = λ k h. refl; after = λ k h. refl }

-- one after the other
pub placed_then : (at columns rows : ℕ) {f g : ℕ → ℕ → ℕ} (h : ℕ → ℕ → ℕ) {old mid now : List ℕ} → Placed at columns rows f old mid
    → Placed at columns rows g mid now → ((x y : ℕ) → f x y + g x y ≡ h x y) → Placed at columns rows h old now
placed_then at columns rows h a b e =
    record {
      long = b.long ∙ a.long;
      inside = λ x y hx hy. let u = a.inside x y hx hy in let v = b.inside x y hx hy in let w = e x y in omega arith;
      before = λ k l. b.before k l ∙ a.before k l;
      after = λ k l. b.after k l ∙ a.after k l;
    }

pub placed_same : (at columns rows : ℕ) {f : ℕ → ℕ → ℕ} (g : ℕ → ℕ → ℕ) {old now : List ℕ} → Placed at columns rows f old now
    → ((x y : ℕ) → f x y ≡ g x y) → Placed at columns rows g old now
placed_same at columns rows g a e =
    record {
      long = a.long;
      inside = λ x y hx hy. let u = a.inside x y hx hy in let w = e x y in omega arith;
      before = a.before;
      after = a.after;
    }

-- where no more than m is added, room for m is used up
pub placed-room : (at columns rows : ℕ) (f : ℕ → ℕ → ℕ) (n m : ℕ) (old now : List ℕ) → 0 < columns → Placed at columns rows f old now
    → ((x y : ℕ) → f x y ≤ m) → Room (n + m) old → Room n now
placed-room at columns rows f n m old now wide g most room k = by (dec_lt k at) (dec_le (at + columns * rows) k)
  where
    i : ℕ
    i = k - at

    i_is : i / columns * columns + i % columns ≡ i
    i_is = div-add-mod' i columns

    by : Dec (k < at) → Dec (at + columns * rows ≤ k) → get_or now k 0 + n < 2 ^ 32
    by (yes l) d = rw (g.before k l) (let r = room k in omega arith)
    by (no l) (yes e) = rw (g.after k e) (let r = room k in omega arith)
    by (no l) (no e) =
        let hx : i % columns < columns = mod-lt i wide in
        let hy : i / columns < rows = (div-lt_iff_lt-mul wide).1 (omega arith) in
        let k-is : at + (i / columns * columns + i % columns) ≡ k = omega (arith, i_is) in
        let at_k : get_or now k 0 ≡ get_or old k 0 + f (i % columns) (i / columns) = rw k-is at (g.inside (i % columns) (i / columns) hx hy) in
        omega (arith, most (i % columns) (i / columns), room k)

-- a row of n entries from (x, y) on, raised as a part of the list
module _ (at columns rows : ℕ) (old ys : List ℕ) (fits : at + columns * rows ≤ length old) (x y n : ℕ) (wide : x + n ≤ columns) (high : y < rows)
    (f : ℕ → ℕ) (g : ℕ → ℕ → ℕ) (same : (k : ℕ) → k < n → f k ≡ g (x + k) y)
    (r : Raised f n (mid_of (at + y * columns + x) n old) ys) where
  ends : at + y * columns + x + n ≤ length old
  ends = omega (arith, row_below columns rows x y n wide high)

  long : length ys ≡ n
  long = r.long ∙ mid_long (at + y * columns + x) n old ends

  here : (i j : ℕ) → i < columns → Dec (j ≡ y) → Dec (j < y) → Dec (i < x) → Dec (i < x + n)
      → get_or (put_mid (at + y * columns + x) n old ys) (at + (j * columns + i)) 0
      ≡ get_or old (at + (j * columns + i)) 0 + gate (eqb j y) (gate (between x n i) (g i j))
  unfolding gate between
  here i j hi (no e) (yes l) d₁ d₂ =
      let h : j + 1 ≤ y = omega arith in
      simp (ne_eqb j y e)
      (put_before (at + y * columns + x) n old ys ends long (at + (j * columns + i)) (omega (arith, mul-le-mul_right columns h)) ∙ sym (add-zero _))
  here i j hi (no e) (no l) d₁ d₂ =
      let h : y + 1 ≤ j = omega arith in
      simp (ne_eqb j y e)
      (put_after (at + y * columns + x) n old ys ends long (at + (j * columns + i)) (omega (arith, mul-le-mul_right columns h)) ∙ sym (add-zero _))
  here i j hi (yes e) d (yes l) d₂ =
      rw e
      (simp (eq-eqb y y refl, lt-leb x i l)
      (put_before (at + y * columns + x) n old ys ends long (at + (y * columns + i)) (omega arith) ∙ sym (add-zero _)))
  here i j hi (yes e) d (no l) (no m) =
      rw e
      (simp (eq-eqb y y refl, le-leb x i (omega arith), le-ltb i (x + n) (omega arith))
      (put_after (at + y * columns + x) n old ys ends long (at + (y * columns + i)) (omega arith) ∙ sym (add-zero _)))
  here i j hi (yes e) d (no l) (yes m) =
      let k : ℕ = i - x in
      let i_is : x + k ≡ i = omega arith in
      let at-is : at + (y * columns + i) ≡ at + y * columns + x + k = omega arith in
      rw e
      (simp (eq-eqb y y refl, le-leb x i (omega arith), lt-ltb i (x + n) m)
      (ap (λ (t : ℕ). get_or (put_mid (at + y * columns + x) n old ys) t 0) at-is
      ∙ put_inside (at + y * columns + x) n old ys ends long k (omega arith)
      ∙ r.within k (omega arith)
      ∙ ap (λ (t : ℕ). t + f k) (mid_at (at + y * columns + x) n old k (omega arith) ∙ ap (λ (t : ℕ). get_or old t 0) (sym at-is))
      ∙ ap (λ (t : ℕ). get_or old (at + (y * columns + i)) 0 + t) (same k (omega arith) ∙ ap (λ (t : ℕ). g t y) i_is)))

  pub placed_span : Placed at columns rows (λ i j. gate (eqb j y) (gate (between x n i) (g i j))) old (put_mid (at + y * columns + x) n old ys)
  placed_span =
      record {
        long = same_len_mid (at + y * columns + x) n old ys r.long;
        inside = λ i j hi hj. here i j hi (ℕ_discrete j y) (dec_lt j y) (dec_lt i x) (dec_lt i (x + n));
        before = λ k h. put_before (at + y * columns + x) n old ys ends long k (omega arith);
        after = λ k h. put_after (at + y * columns + x) n old ys ends long k (omega (arith, row_below columns rows x y n wide high));
      }

-- a row's distances, shares and terms, from a part of the packed centre and the displaced samples, are those of the two sample functions
module _ (curve centre row : List ℕ) (c s : Samples) (from x y n : ℕ)
    (packed : (k : ℕ) → k < n → get_or centre (from + k) 0 ≡ c (pos (x + k)) (pos y))
    (displaced : (k : ℕ) → k < n → get_or row k 0 ≡ s (pos (x + k)) (pos y)) where
  pub centre_is : (k : ℕ) → k < n → get_or (mid_of from n centre) k 0 ≡ c (pos (x + k)) (pos y)
  centre_is k h = mid_at from n centre k h ∙ packed k h

  pub row_is : (k : ℕ) → k < n → get_or (take n row) k 0 ≡ s (pos (x + k)) (pos y)
  row_is k h = get_or-take n row k 0 h ∙ displaced k h

  pub share_is : (k : ℕ) → k < n → row_share curve (mid_of from n centre) (take n row) k ≡ share_by curve c s (x + k) y
  unfolding row_share share_by
  share_is k h =
      ap (λ (t : ℕ). get_or curve (distance t (get_or (mid_of from n centre) k 0)) 0) (row_is k h)
      ∙ ap (λ (t : ℕ). get_or curve (distance (s (pos (x + k)) (pos y)) t) 0) (centre_is k h)

  pub term_is : (k : ℕ) → k < n → row_term curve (mid_of from n centre) (take n row) k ≡ term_by curve c s (x + k) y
  unfolding row_term term_by
  term_is k h = ap (λ (t : ℕ). t * get_or (take n row) k 0) (share_is k h) ∙ ap (λ (t : ℕ). share_by curve c s (x + k) y * t) (row_is k h)

  pub apart_is : (k : ℕ) → k < n → row_distance (mid_of from n centre) (take n row) k ≡ distance (c (pos (x + k)) (pos y)) (s (pos (x + k)) (pos y))
  unfolding row_distance
  apart_is k h =
      ap (λ (t : ℕ). distance t (get_or (take n row) k 0)) (centre_is k h) ∙ ap (λ (t : ℕ). distance (c (pos (x + k)) (pos y)) t) (row_is k h)

-- a frame adds at most 16 to a weight and 16 times 255 to a sum
module _ (curve : List ℕ) (c s : Samples) (light : Light curve) where
  pub share-most : (x y : ℕ) → share_by curve c s x y ≤ 16
  unfolding share_by
  share-most x y = light _

  pub term_most : (x y : ℕ) → s (pos x) (pos y) ≤ 255 → term_by curve c s x y ≤ 4080
  unfolding term_by
  term_most x y byte = mul-le-mul (share-most x y) byte

-- a share and a term go by the two samples at the place
module _ (curve : List ℕ) (c s t : Samples) (x y : ℕ) (e : s (pos x) (pos y) ≡ t (pos x) (pos y)) where
  pub share_goes : share_by curve c s x y ≡ share_by curve c t x y
  unfolding share_by
  share_goes = ap (λ (v : ℕ). get_or curve (distance v (c (pos x) (pos y))) 0) e

  pub term_goes : term_by curve c s x y ≡ term_by curve c t x y
  unfolding term_by
  term_goes = ap (λ (n : ℕ). n * s (pos x) (pos y)) share_goes ∙ ap (λ (n : ℕ). share_by curve c t x y * n) e
