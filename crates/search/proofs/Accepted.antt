-- What a line of the refusals that does not apply tells. Assumes nothing.
use Rattle.std.proofs.Common.{◌≡◌, refl, Bool, true, false, cond, List, [], ◌∷◌, ℕ, ◌+◌, ◌-◌, ◌*◌, ◌%◌, ◌≤◌, ◌<◌, arith, ltb-false, le-ltb, ltb, ℤ, pos, neg_ℤ, nat_abs, length}
use Rattle.std.specs.Int.Signed.{lt_z}
use Rattle.laws.proofs.Signed.{lt-false, not-lt, self, one-zero}
use Rattle.laws.specs.Outcome.{Outcome, refused, accepted, Line, first_of}
use Rattle.laws.proofs.Outcome.{Skipped, or_none}
use Rattle.prediction.specs.declared.motion_vector.Mv.{Mv}
use Rattle.prediction.specs.Refusals.{bad_side}
use Rattle.fetch.proofs.Squares.{sized}
use Rattle.search.specs.declared.Site.{Site}
use Rattle.search.specs.Refusals.{outside, out_of_range, not_multiple, off_grid}
use Rattle.search.specs.Internal.{InRange, Ready}

-- 11
inside : (z : ℤ) → outside z ≡ false → nat_abs z ≤ 1023
inside z e =
    let p = or_none (lt_z z (neg_ℤ (pos 1023))) (lt_z (pos 1023) z) e in
    omega (arith, lt-false z (neg_ℤ (pos 1023)) p.0, lt-false (pos 1023) z p.1, (self z).abs, one-zero z)

pub in_range : (v : Mv) → out_of_range v ≡ false → InRange v
in_range v e =
    let p = or_none (outside v.row) (outside v.col) e in
    record { row = inside v.row p.0; col = inside v.col p.1 }

-- 12
pub record Multiple (n : ℕ) (v : Mv) : Type 0 where
  pub row : nat_abs v.row % n ≡ 0
  pub col : nat_abs v.col % n ≡ 0

pub multiple : (n : ℕ) (v : Mv) → off_grid n v ≡ false → Multiple n v
multiple n v e =
    let p = or_none (not_multiple n v.row) (not_multiple n v.col) e in
    record { row = omega (arith, ltb-false 0 (nat_abs v.row % n) p.0); col = omega (arith, ltb-false 0 (nat_abs v.col % n) p.1) }

-- and back: what makes 11 and 12 not apply
pub range-line : (v : Mv) → InRange v → out_of_range v ≡ false
range-line v r = rw (near v.row r.row, near v.col r.col)
  where
    near : (z : ℤ) → nat_abs z ≤ 1023 → outside z ≡ false
    near z h = rw (not-lt z (neg_ℤ (pos 1023)) (omega (arith, (self z).abs)), not-lt (pos 1023) z (omega (arith, (self z).abs)))

pub grid-line : (n : ℕ) (v : Mv) → Multiple n v → off_grid n v ≡ false
grid-line n v m = rw (none v.row m.row, none v.col m.col)
  where
    none : (z : ℤ) → nat_abs z % n ≡ 0 → not_multiple n z ≡ false
    none z e = le-ltb 0 (nat_abs z % n) (omega arith)

-- 8, 9 and 10
pub record Placed (bytes : List ℕ) (s : Site) : Type 0 where
  pub wide : (0 < s.width) × (s.width ≤ 16383)
  pub high : (0 < s.height) × (s.height ≤ 16383)
  pub long : (s.height - 1) * s.stride + s.width ≤ length bytes
  pub column : s.column ≤ 1023
  pub row : s.row ≤ 1023

pub placed : (bytes : List ℕ) (s : Site) (src : List ℕ) → Ready bytes s src → Placed bytes s
placed bytes s src r =
    let p = or_none (bad_side s.width) (bad_side s.height) r.size in
    let q = or_none (ltb 1023 s.column) (ltb 1023 s.row) r.place in
    record {
      wide = sized s.width p.0;
      high = sized s.height p.1;
      long = omega (arith, ltb-false (length bytes) (0 + (s.height - 1) * s.stride + s.width) r.long);
      column = ltb-false 1023 s.column q.0;
      row = ltb-false 1023 s.row q.1;
    }

-- a line that does not apply
pub pass : {A : Type 0} (t : Bool) (r x y : A) → t ≡ false → r ≡ x → r ≡ cond t y x
pass t r x y e f = rw e f

-- every vector is on the grid of 1
pub grid-one : (v : Mv) → off_grid 1 v ≡ false
grid-one v = grid-line 1 v (record { row = omega arith; col = omega arith })

-- two calls with the same lines: what refuses one refuses the other, and where one is accepted so is the other
same-refusal : {A : Type 0} (n m : ℕ) (v w : List ℕ) (o : Outcome A) → o ≡ refused n v → o ≡ refused m w → (n ≡ m) × (v ≡ w)
same-refusal n m v w o e f = (cc, cc)

not-refused : {A : Type 0} (a : A) (n : ℕ) (v : List ℕ) → accepted a ≡ refused n v → ⊥
not-refused a n v e = let z : ◌≡◌ {A = ℕ} 0 1 = cc in omega arith

pub also_refused : {A B : Type 0} (ls : List Line) (a : A) (b : B) (n : ℕ) (v : List ℕ) → first_of ls a ≡ refused n v → refused n v ≡ first_of ls b
also_refused [] a b n v e = absurd (not-refused a n v e)
also_refused (l ∷ ls) a b n v e = go (λ k. also_refused ls a b n v k) l.test e
  where
    go : (first_of ls a ≡ refused n v → refused n v ≡ first_of ls b) → (t : Bool) → cond t (refused l.number l.values) (first_of ls a) ≡ refused n v
        → refused n v ≡ cond t (refused l.number l.values) (first_of ls b)
    go ih true k = let s = same-refusal l.number n l.values v _ refl k in rw (s.0, s.1)
    go ih false k = ih k

pub also_accepted : {B : Type 0} (ls : List Line) (b : B) → Skipped ls → accepted b ≡ first_of ls b
also_accepted [] b s = refl
also_accepted (l ∷ ls) b s = pass _ _ _ _ s.0 (also_accepted ls b s.1)
