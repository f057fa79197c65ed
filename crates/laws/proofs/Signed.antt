-- A signed number as two naturals: z is `above z` less `below z`, and one of the two is 0.
-- Each law turns an operation or a test on ℤ into linear facts on these, which `omega` reads. Assumes nothing.
use mathlib.Core.Path.{◌≡◌, refl, sym, ap, ◌∙◌, subst}
use mathlib.Core.Bool.{Bool, true, false, not, cond}
use Prim.Native.Nat.{ℕ, zero, suc, ◌+◌, ◌*◌, ◌-◌, ◌/◌, ◌^◌, ◌≤◌, ◌<◌, min, pred}
use native.Mathlib.Nat.{zero-div, div-eq_of_lt, add-div_right}
use native.Mathlib.Numerals.{add-one}
use native.Mathlib.Omega.{arith}
use lib.Dec.{T, ltb, ltb→lt, nltb→le, lit<}
use lib.IntN.{ℤ, pos, negsuc, ◌+ℤ◌, ◌-ℤ◌, ◌*ℤ◌, neg_ℤ, nat_abs, sub_ℕ}
use lib.Signed.{mag, lt_z, le_z, non_neg, quot_z, shr_z}
use borrow.Author.Tests.{ltb-true, ltb-false, leb-true, leb-false, eqb-true, eq-eqb}
use mir.Syntax.{Width, w8, w16, w32, w64, w128}
use mir.Val.{SFits, hbits, to_z, of_z}
use mir.Facts.{to_z-of_z}
use Rattle.laws.specs.Signed.{above, below, eq_z, floor_div}

-- two numbers with equal parts, crosswise, are equal
pub same : (a b : ℤ) → above a + below b ≡ above b + below a → a ≡ b
same (pos a) (pos b) e = ap pos (omega arith)
same (pos a) (negsuc b) e = absurd (omega arith)
same (negsuc a) (pos b) e = absurd (omega arith)
same (negsuc a) (negsuc b) e = ap negsuc (omega arith)

-- z has the parts p and n; its size; and `mag`, by which a signed type's range is told
pub record Is (z : ℤ) (p n : ℕ) : Type 0 where
  pub up : above z ≡ p
  pub dn : below z ≡ n
  pub abs : nat_abs z ≡ p + n
  pub mag_is : mag z ≡ p + pred n

is : (z : ℤ) {p n : ℕ} → above z ≡ p → below z ≡ n → Is z p n
is (pos k) e f = record { up = e; dn = f; abs = omega arith; mag_is = omega arith }
is (negsuc k) e f = record { up = e; dn = f; abs = omega arith; mag_is = omega arith }

pub self : (z : ℤ) → Is z (above z) (below z)
self z = is z refl refl

-- ---- the operations: each gives the parts of its result

cond_ind : (c : Bool) (x y : ℤ) (P : ℤ → Type 0) → (T c → P x) → (T (not c) → P y) → P (cond c x y)
cond_ind true x y P f g = f tt
cond_ind false x y P f g = g tt

pub less : (a b : ℕ) → Is (sub_ℕ a b) (a - b) (b - a)
less a b = cond_ind (ltb a b) (negsuc (b - suc a)) (pos (a - b)) (λ z. Is z (a - b) (b - a))
    (λ t. first (ltb→lt a b t)) (λ t. second (nltb→le a b t))
  where
    first : a < b → Is (negsuc (b - suc a)) (a - b) (b - a)
    first h = is _ (omega arith) (omega arith)

    second : b ≤ a → Is (pos (a - b)) (a - b) (b - a)
    second h = is _ refl (omega arith)

pub sum : (a b : ℤ) → Is (a +ℤ b) (above a + above b - (below a + below b)) (below a + below b - (above a + above b))
sum (pos a) (pos b) = is _ (omega arith) (omega arith)
sum (pos a) (negsuc b) = is _ (omega (arith, less a (suc b))) (omega (arith, less a (suc b)))
sum (negsuc a) (pos b) = is _ (omega (arith, less b (suc a))) (omega (arith, less b (suc a)))
sum (negsuc a) (negsuc b) = is _ (omega arith) (omega arith)

pub neg : (z : ℤ) → Is (neg_ℤ z) (below z) (above z)
neg (pos zero) = is _ refl refl
neg (pos (suc n)) = is _ refl refl
neg (negsuc n) = is _ refl refl

pub diff : (a b : ℤ) → Is (a -ℤ b) (above a + below b - (below a + above b)) (below a + above b - (above a + below b))
diff a b = is _ (omega (arith, sum a (neg_ℤ b), neg b)) (omega (arith, sum a (neg_ℤ b), neg b))

-- a product by a literal, not negative and negative
pub times : (a : ℤ) (k : ℕ) → Is (a *ℤ pos k) (above a * k) (below a * k)
times (pos a) k = is _ refl (omega arith)
times (negsuc a) k = is _ (omega (arith, neg (pos (suc a * k)))) (neg (pos (suc a * k))).dn

pub times_neg : (a : ℤ) (k : ℕ) → Is (a *ℤ negsuc k) (below a * suc k) (above a * suc k)
times_neg (pos a) k = is _ (omega (arith, neg (pos (a * suc k)))) (neg (pos (a * suc k))).dn
times_neg (negsuc a) k = is _ refl (omega arith)

-- a quotient by a literal, rounded toward zero; and rounded down, by suc k
pub quot : (a : ℤ) (k : ℕ) → Is (quot_z a (pos k)) (above a / k) (below a / k)
quot (pos a) k = is _ refl (sym (zero-div k))
quot (negsuc a) k = is _ ((neg (pos (suc a / k))).up ∙ sym (zero-div k)) (neg (pos (suc a / k))).dn

pub floor : (a : ℤ) (k : ℕ) → Is (floor_div a (suc k)) (above a / suc k) ((below a + k) / suc k)
floor (pos a) k = is _ refl (sym (div-eq_of_lt (omega arith)))
floor (negsuc a) k = is _ (sym (zero-div (suc k))) (sym (ap (λ (n : ℕ). n / suc k) (e a) ∙ add-div_right a (omega arith) ∙ add-one (a / suc k)))
  where
    e : (a : ℕ) → suc a + k ≡ a + suc k
    e a = omega arith

-- a shift to the right by j bits is such a quotient by 2 to the j
pub floor_shift : (z : ℤ) (n : ℕ) → shr_z z n ≡ floor_div z n
floor_shift (pos a) n = refl
floor_shift (negsuc a) n = refl

-- the order's tests, and what they tell
no : false ≡ true → ⊥
no e = subst (λ (b : Bool). T (not b)) e tt

yes : true ≡ false → ⊥
yes e = no (sym e)

pub lt-true : (a b : ℤ) → lt_z a b ≡ true → above a + below b < above b + below a
lt-true (pos a) (pos b) e = omega (arith, ltb-true a b e)
lt-true (pos a) (negsuc b) e = absurd (no e)
lt-true (negsuc a) (pos b) e = omega arith
lt-true (negsuc a) (negsuc b) e = omega (arith, ltb-true b a e)

pub lt-false : (a b : ℤ) → lt_z a b ≡ false → above b + below a ≤ above a + below b
lt-false (pos a) (pos b) e = omega (arith, ltb-false a b e)
lt-false (pos a) (negsuc b) e = omega arith
lt-false (negsuc a) (pos b) e = absurd (yes e)
lt-false (negsuc a) (negsuc b) e = omega (arith, ltb-false b a e)

pub le-true : (a b : ℤ) → le_z a b ≡ true → above a + below b ≤ above b + below a
le-true (pos a) (pos b) e = omega (arith, leb-true a b e)
le-true (pos a) (negsuc b) e = absurd (no e)
le-true (negsuc a) (pos b) e = omega arith
le-true (negsuc a) (negsuc b) e = omega (arith, leb-true b a e)

pub le-false : (a b : ℤ) → le_z a b ≡ false → above b + below a < above a + below b
le-false (pos a) (pos b) e = omega (arith, leb-false a b e)
le-false (pos a) (negsuc b) e = omega arith
le-false (negsuc a) (pos b) e = absurd (yes e)
le-false (negsuc a) (negsuc b) e = omega (arith, leb-false b a e)

-- and back, for a definition that goes by a test
flag : (t : Bool) → (t ≡ false → ⊥) → t ≡ true
flag true f = refl
flag false f = absurd (f refl)

unflag : (t : Bool) → (t ≡ true → ⊥) → t ≡ false
unflag true f = absurd (f refl)
unflag false f = refl

pub is_lt : (a b : ℤ) → above a + below b < above b + below a → lt_z a b ≡ true
is_lt a b h = flag (lt_z a b) (λ e. below-not (lt-false a b e))
  where
    below-not : above b + below a ≤ above a + below b → ⊥
    below-not k = omega arith

pub not-lt : (a b : ℤ) → above b + below a ≤ above a + below b → lt_z a b ≡ false
not-lt a b h = unflag (lt_z a b) (λ e. clash (lt-true a b e))
  where
    clash : above a + below b < above b + below a → ⊥
    clash k = omega arith

pub is_le : (a b : ℤ) → above a + below b ≤ above b + below a → le_z a b ≡ true
is_le a b h = flag (le_z a b) (λ e. clash (le-false a b e))
  where
    clash : above b + below a < above a + below b → ⊥
    clash k = omega arith

pub not-le : (a b : ℤ) → above b + below a < above a + below b → le_z a b ≡ false
not-le a b h = unflag (le_z a b) (λ e. clash (le-true a b e))
  where
    clash : above a + below b ≤ above b + below a → ⊥
    clash k = omega arith

-- the range of a width
pub fits : {w : Width} {z : ℤ} → above z < 2 ^ hbits w → below z ≤ 2 ^ hbits w → SFits w z
fits {w = w} {z = pos n} h k = record { sfits = h }
fits {w = w} {z = negsuc n} h k = record { sfits = k }

pow_pos : (w : Width) → 0 < 2 ^ hbits w
pow_pos w8 = lit< tt
pow_pos w16 = lit< tt
pow_pos w32 = lit< tt
pow_pos w64 = lit< tt
pow_pos w128 = lit< tt

pub above-fits : {w : Width} {z : ℤ} → SFits w z → above z < 2 ^ hbits w
above-fits {w = w} {z = pos n} f = f.sfits
above-fits {w = w} {z = negsuc n} f = pow_pos w

pub below-fits : {w : Width} {z : ℤ} → SFits w z → below z ≤ 2 ^ hbits w
below-fits {w = w} {z = pos n} f = omega arith
below-fits {w = w} {z = negsuc n} f = f.sfits

-- a number of a signed type: one part is 0, and both are in range
pub record InRange (w : Width) (z : ℤ) : Type 0 where
  pub one : min (above z) (below z) ≡ 0
  pub most : above z < 2 ^ hbits w
  pub least : below z ≤ 2 ^ hbits w

pub one-zero : (z : ℤ) → min (above z) (below z) ≡ 0
one-zero (pos n) = omega arith
one-zero (negsuc n) = omega arith

pub range : {w : Width} {z : ℤ} → SFits w z → InRange w z
range {w} {z} f = record { one = one-zero z; most = above-fits f; least = below-fits f }

-- a cast to an unsigned type asks that the number is not negative
pub nonneg : (z : ℤ) → below z ≡ 0 → T (non_neg z)
nonneg (pos n) e = tt
nonneg (negsuc n) e = absurd (omega arith)

-- the rules for `omega`: the tests in reach as facts on the parts, and a cast's goal
pub ruleset signs = (lt-true, lt-false, le-true, le-false, nonneg)

-- r is what a definition by a test gives, where it is so in each case
pub by-test : {A : Type 0} {r x y : A} (t : Bool) → (t ≡ true → r ≡ x) → (t ≡ false → r ≡ y) → r ≡ cond t x y
by-test true f g = f refl
by-test false f g = g refl

-- what a signed local gives back of a call's result: `back w32 c.f.result c.f.ok`
pub back : (w : Width) (z : ℤ) → mag z < 2 ^ hbits w → to_z w (of_z w z) ≡ z
back w z h = to_z-of_z (record { sfits = h })

pub eq_z-true : (a b : ℤ) → eq_z a b ≡ true → a ≡ b
eq_z-true (pos a) (pos b) e = ap pos (eqb-true a b e)
eq_z-true (pos a) (negsuc b) e = absurd (no e)
eq_z-true (negsuc a) (pos b) e = absurd (no e)
eq_z-true (negsuc a) (negsuc b) e = ap negsuc (eqb-true a b e)

pub eq_z_self : (a : ℤ) → eq_z a a ≡ true
eq_z_self (pos a) = eq-eqb a a refl
eq_z_self (negsuc a) = eq-eqb a a refl

pub eq-eq_z : (a b : ℤ) → a ≡ b → eq_z a b ≡ true
eq-eq_z a b e = rw e (eq_z_self b)

pub ne-eq_z : (a b : ℤ) → (a ≡ b → ⊥) → eq_z a b ≡ false
ne-eq_z a b f = unflag (eq_z a b) (λ e. f (eq_z-true a b e))

-- equal numbers have equal parts
pub parts_same : {a b : ℤ} → a ≡ b → (above a ≡ above b) × (below a ≡ below b)
parts_same e = (ap above e, ap below e)

-- z is p less n, whichever is the greater: the law of a long sum, with one case split at its end
pub record Less (z : ℤ) (p n : ℕ) : Type 0 where
  pub eq : above z + n ≡ p + below z

pub less_of : (z : ℤ) → Less z (above z) (below z)
less_of z = record { eq = refl }

pub less-pos : (n : ℕ) → Less (pos n) n 0
less-pos n = record { eq = omega arith }

pub less-sum : {a b : ℤ} {p n q m : ℕ} → Less a p n → Less b q m → Less (a +ℤ b) (p + q) (n + m)
less-sum {a} {b} h k = record { eq = omega (arith, h.eq, k.eq, (sum a b).up, (sum a b).dn) }

pub less_diff : {a b : ℤ} {p n q m : ℕ} → Less a p n → Less b q m → Less (a -ℤ b) (p + m) (n + q)
less_diff {a} {b} h k = record { eq = omega (arith, h.eq, k.eq, (diff a b).up, (diff a b).dn) }

pub above-less : {z : ℤ} {p n : ℕ} → Less z p n → above z ≡ p - n
above-less {z} h = omega (arith, h.eq, one-zero z)

pub below_less : {z : ℤ} {p n : ℕ} → Less z p n → below z ≡ n - p
below_less {z} h = omega (arith, h.eq, one-zero z)

-- a number of 32 bits shifted right by 31 is its sign, -1 below 0 and else 0. One plus the sign, as a factor, keeps a number that is
-- not below 0 and turns every other into 0; all of it fits 32 bits
pub record SignOf (z : ℤ) : Type 0 where
  pub sign : shr_z z 2147483648 ≡ cond (lt_z z (pos 0)) (negsuc 0) (pos 0)
  pub kept : z *ℤ (pos 1 +ℤ shr_z z 2147483648) ≡ pos (above z)
  pub fits_sign : SFits w32 (shr_z z 2147483648)
  pub fits_one : SFits w32 (pos 1 +ℤ shr_z z 2147483648)
  pub fits_kept : SFits w32 (z *ℤ (pos 1 +ℤ shr_z z 2147483648))

pub sign_of : (z : ℤ) → SFits w32 z → SignOf z
sign_of (pos n) f =
    let e : n / 2147483648 ≡ 0 = div-eq_of_lt f.sfits in
    let t = times (pos n) 1 in
    let k : pos n *ℤ (pos 1 +ℤ shr_z (pos n) 2147483648) ≡ pos n = rw e (same _ _ (omega (arith, t.up, t.dn))) in
    record {
      sign = rw (not-lt (pos n) (pos 0) (omega arith)) (ap pos e);
      kept = k;
      fits_sign = rw e (record { sfits = lit< tt });
      fits_one = rw e (record { sfits = lit< tt });
      fits_kept = rw k f;
    }
sign_of (negsuc n) f =
    let e : n / 2147483648 ≡ 0 = div-eq_of_lt f.sfits in
    let t = times (negsuc n) 0 in
    let k : negsuc n *ℤ (pos 1 +ℤ shr_z (negsuc n) 2147483648) ≡ pos 0 = rw e (same _ _ (omega (arith, t.up, t.dn))) in
    record {
      sign = ap negsuc e;
      kept = k;
      fits_sign = rw e (record { sfits = lit< tt });
      fits_one = rw e (record { sfits = lit< tt });
      fits_kept = rw k (record { sfits = lit< tt });
    }
