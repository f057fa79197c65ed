-- Packed planes: every place is a sample's, and a list is known by its samples. Assumes nothing.
use Rattle.std.proofs.Common.{◌≡◌, sym, ap, ◌∙◌, List, ◌++◌, ℕ, zero, suc, ◌+◌, ◌-◌, ◌*◌, ◌/◌, ◌%◌, ◌<◌, zero-add, div-add-mod', mod-lt, mod-eq_of_lt, div-lt_iff_lt-mul, add-zero, arith, length, get_or, length-append, ext_get_or, get_or-append-add}
use Rattle.std.proofs.Math.Decide.{dec_lt}
use Rattle.std.proofs.Math.ListN.{get_or-append}
use Rattle.std.proofs.Math.Nat.{div-eq_of_lt, mul-add-div_right, mul-add-mod_self_right}
use Rattle.laws.proofs.Tabulate.{length-tabulate, get_d_tabulate}
use Rattle.window.specs.Layout.{half, side_of, offset_of, packed_size, place_of}
use Rattle.denoiser.specs.Build.{plane_list, packed}
use Rattle.denoiser.specs.Internal.{Shows}
use Rattle.denoiser.proofs.Planes.{below_end}

-- a place below P is a sample's
pub record Found (w h i : ℕ) : Type 0 where
  pub k : ℕ
  pub x : ℕ
  pub y : ℕ
  pub plane : k < 3
  pub column : x < side_of k w
  pub row : y < side_of k h
  pub is : place_of w h k x y ≡ i

in_plane : (w h k i n : ℕ) → k < 3 → offset_of k w h + n ≡ i → n < side_of k w * side_of k h → 0 < side_of k w → Found w h i
in_plane w h k i n hk e less side =
    let c = side_of k w in
    record {
      k = k;
      x = n % c;
      y = n / c;
      plane = hk;
      column = mod-lt n side;
      row = (div-lt_iff_lt-mul side).1 (omega arith);
      is = ap (λ (v : ℕ). offset_of k w h + v) (div-add-mod' n c) ∙ e;
    }

pub found : (w h i : ℕ) → 0 < w → i < packed_size w h → Found w h i
found w h i wide less = by (dec_lt i (w * h)) (dec_lt i (w * h + half w * half h))
  where
    by : Dec (i < w * h) → Dec (i < w * h + half w * half h) → Found w h i
    by (yes l) d = in_plane w h 0 i i (omega arith) (zero-add i) l wide
    by (no l) (yes d) = in_plane w h 1 i (i - w * h) (omega arith) (omega arith) (omega arith) (omega arith)
    by (no l) (no d) = in_plane w h 2 i (i - (w * h + half w * half h)) (omega arith) (omega arith) (omega arith) (omega arith)

-- a packed plane's list, at a sample
module _ (w h : ℕ) (f : ℕ → ℕ → ℕ → ℕ) where
  list_long : (k : ℕ) → length (plane_list w h f k) ≡ side_of k w * side_of k h
  list_long k = length-tabulate (side_of k w * side_of k h) _

  list_at : (k x y : ℕ) → x < side_of k w → y < side_of k h → get_or (plane_list w h f k) (y * side_of k w + x) 0 ≡ f k x y
  list_at k x y hx hy =
      let c = side_of k w in
      let side : 0 < c = omega arith in
      let column : (y * c + x) % c ≡ x = mul-add-mod_self_right y c x ∙ mod-eq_of_lt hx in
      let row : (y * c + x) / c ≡ y = mul-add-div_right side y x ∙ ap (λ (t : ℕ). y + t) (div-eq_of_lt hx) ∙ add-zero y in
      get_d_tabulate (c * side_of k h) (λ i. f k (i % c) (i / c)) (y * c + x) 0 (below_end c (side_of k h) x y hx hy)
      ∙ ap (λ (t : ℕ). f k t ((y * c + x) / c)) column ∙ ap (f k x) row

  pub packed-long : length (packed w h f) ≡ packed_size w h
  unfolding packed
  packed-long =
      let a = list_long 0 in
      let b = list_long 1 in
      let c = list_long 2 in
      let d = length-append (plane_list w h f 0) (plane_list w h f 1 ++ plane_list w h f 2) in
      let e = length-append (plane_list w h f 1) (plane_list w h f 2) in
      omega arith

  pub place-below : (k x y : ℕ) → k < 3 → x < side_of k w → y < side_of k h → place_of w h k x y < packed_size w h
  place-below zero x y hk hx hy = omega (arith, below_end w h x y hx hy)
  place-below (suc zero) x y hk hx hy = omega (arith, below_end (half w) (half h) x y hx hy)
  place-below (suc (suc k)) x y hk hx hy = omega (arith, below_end (half w) (half h) x y hx hy)

  packed-at : (k x y : ℕ) → k < 3 → x < side_of k w → y < side_of k h → get_or (packed w h f) (place_of w h k x y) 0 ≡ f k x y
  unfolding packed
  packed-at = there
    where
      ys : List ℕ
      ys = plane_list w h f 0

      us : List ℕ
      us = plane_list w h f 1

      vs : List ℕ
      vs = plane_list w h f 2

      there : (k x y : ℕ) → k < 3 → x < side_of k w → y < side_of k h → get_or (ys ++ (us ++ vs)) (place_of w h k x y) 0 ≡ f k x y
      there zero x y hk hx hy =
          ap (λ (t : ℕ). get_or (ys ++ (us ++ vs)) t 0) (zero-add (y * w + x))
          ∙ get_or-append ys (us ++ vs) 0 (y * w + x) (omega (arith, list_long 0, below_end w h x y hx hy)) ∙ list_at 0 x y hx hy
      there (suc zero) x y hk hx hy =
          ap (λ (t : ℕ). get_or (ys ++ (us ++ vs)) (t + (y * half w + x)) 0) (sym (list_long 0))
          ∙ get_or-append-add ys (us ++ vs) (y * half w + x) 0
          ∙ get_or-append us vs 0 (y * half w + x) (omega (arith, list_long 1, below_end (half w) (half h) x y hx hy)) ∙ list_at 1 x y hx hy
      there (suc (suc zero)) x y hk hx hy =
          let i = y * half w + x in
          ap (λ (t : ℕ). get_or (ys ++ (us ++ vs)) t 0) (let a = list_long 0 in let b = list_long 1 in omega arith)
          ∙ get_or-append-add ys (us ++ vs) (length us + i) 0
          ∙ get_or-append-add us vs i 0 ∙ list_at 2 x y hx hy
      there (suc (suc (suc k))) x y hk hx hy = absurd (omega arith)

  pub packed-sample : (rest : List ℕ) (k x y : ℕ) → k < 3 → x < side_of k w → y < side_of k h → get_or (packed w h f ++ rest) (place_of w h k x y) 0 ≡ f k x y
  packed-sample rest k x y hk hx hy =
      get_or-append (packed w h f) rest 0 (place_of w h k x y) (omega (arith, packed-long, place-below k x y hk hx hy)) ∙ packed-at k x y hk hx hy

  -- a list of P entries that holds f at every sample is the packed one
  pub shows_is : (l : List ℕ) → 0 < w → length l ≡ packed_size w h → Shows w h f l → l ≡ packed w h f
  shows_is l wide long s =
      ext_get_or 0 l (packed w h f) (long ∙ sym packed-long) (λ i hi. at i (omega arith))
    where
      at : (i : ℕ) → i < packed_size w h → get_or l i 0 ≡ get_or (packed w h f) i 0
      at i less =
          let p = found w h i wide less in
          rw (sym p.is) (s.at p.k p.x p.y p.plane p.column p.row ∙ sym (packed-at p.k p.x p.y p.plane p.column p.row))
