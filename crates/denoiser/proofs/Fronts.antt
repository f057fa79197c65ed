-- Laws of `Front`, `Stored` and `Shows`: what loops that store one place after the other leave. Assumes nothing.
use Rattle.std.proofs.Common.{◌≡◌, refl, sym, ap, ◌∙◌, List, ℕ, zero, suc, ◌+◌, ◌*◌, ◌≤◌, ◌<◌, not-suc-le-zero, mul-le-mul_right, arith, length, get_or, set, length-set, get_or-set_same, get_or-set_other}
use Rattle.std.proofs.Math.Decide.{ℕ_discrete}
use borrow.Rule.Slice.PartMut.{put_mid, same_len_mid}
use Rattle.laws.proofs.Slices.{mid_long, put_before, put_inside, put_after}
use Rattle.window.specs.Layout.{half, side_of, place_of}
use Rattle.denoiser.specs.Internal.{Front, Stored, Shows}
use Rattle.denoiser.proofs.Planes.{below_end}

pub front_none : (f : ℕ → ℕ) (l : List ℕ) → Front 0 f l l
front_none f l = record { long = refl; within = λ k h. absurd (not-suc-le-zero h); past = λ k h. refl }

pub front-more : (f : ℕ → ℕ) (n v : ℕ) (old now : List ℕ) → n < length old → v ≡ f n → Front n f old now → Front (n + 1) f old (set now n v)
front-more f n v old now fits is r =
    record { long = length-set now n v ∙ r.long; within = λ k h. inside k h (ℕ_discrete k n); past = λ k h. get_or-set_other now n k v 0 (omega arith) ∙ r.past k (omega arith) }
  where
    inside : (k : ℕ) → k < n + 1 → Dec (k ≡ n) → get_or (set now n v) k 0 ≡ f k
    inside k h (yes e) = rw e (get_or-set_same now n v 0 (let l : length now ≡ length old = r.long in omega arith) ∙ is)
    inside k h (no g) = get_or-set_other now n k v 0 g ∙ r.within k (omega arith)

-- a plane, row by row
pub stored_none : (at columns : ℕ) (f : ℕ → ℕ → ℕ) (l : List ℕ) → Stored at columns 0 f l l
stored_none at columns f l =
    record { long = refl; inside = λ x y hx hy. absurd (not-suc-le-zero hy); before = λ k h. refl; after = λ k h. refl }

module _ (at columns rows : ℕ) (f : ℕ → ℕ → ℕ) (old now ys : List ℕ) (fits : at + columns * rows ≤ length old) (r : ℕ) (less : r < rows)
    (s : Stored at columns r f old now) (long : length ys ≡ columns) (is : (x : ℕ) → x < columns → get_or ys x 0 ≡ f x r) where
  ends : at + r * columns + columns ≤ length now
  ends =
      let h : r + 1 ≤ rows = omega arith in
      omega (arith, s.long, mul-le-mul_right columns h)

  pub stored_more : Stored at columns (r + 1) f old (put_mid (at + r * columns) columns now ys)
  stored_more =
      record {
        long = same_len_mid (at + r * columns) columns now ys (long ∙ sym (mid_long (at + r * columns) columns now ends)) ∙ s.long;
        inside = λ x y hx hy. inside x y hx hy (ℕ_discrete y r);
        before = λ k h. put_before (at + r * columns) columns now ys ends long k (omega arith) ∙ s.before k h;
        after = λ k h. put_after (at + r * columns) columns now ys ends long k (omega arith) ∙ s.after k (omega arith);
      }
    where
      inside : (x y : ℕ) → x < columns → y < r + 1 → Dec (y ≡ r) → get_or (put_mid (at + r * columns) columns now ys) (at + (y * columns + x)) 0 ≡ f x y
      inside x y hx hy (yes e) =
          rw e
          (ap (λ (t : ℕ). get_or (put_mid (at + r * columns) columns now ys) t 0) (omega arith)
          ∙ put_inside (at + r * columns) columns now ys ends long x hx ∙ is x hx)
      inside x y hx hy (no g) =
          let h : y + 1 ≤ r = omega arith in
          put_before (at + r * columns) columns now ys ends long (at + (y * columns + x)) (omega (arith, mul-le-mul_right columns h))
          ∙ s.inside x y hx (omega arith)

-- Y, then U, then V
pub shows_three : (w h : ℕ) (f : ℕ → ℕ → ℕ → ℕ) {old a b now : List ℕ} → Stored 0 w h (f 0) old a → Stored (w * h) (half w) (half h) (f 1) a b
    → Stored (w * h + half w * half h) (half w) (half h) (f 2) b now → Shows w h f now
shows_three w h f {old} {a} {b} {now} p q r =
    record { at = at }
  where
    at : (k x y : ℕ) → k < 3 → x < side_of k w → y < side_of k h → get_or now (place_of w h k x y) 0 ≡ f k x y
    at zero x y hk hx hy =
        let l = below_end w h x y hx hy in
        r.before (0 + (y * w + x)) (omega arith) ∙ q.before (0 + (y * w + x)) (omega arith) ∙ p.inside x y hx hy
    at (suc zero) x y hk hx hy =
        let l = below_end (half w) (half h) x y hx hy in
        r.before (w * h + (y * half w + x)) (omega arith) ∙ q.inside x y hx hy
    at (suc (suc zero)) x y hk hx hy = r.inside x y hx hy
    at (suc (suc (suc k))) x y hk hx hy = absurd (omega arith)
