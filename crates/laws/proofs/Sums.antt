-- Laws of sums. Assumes nothing.
use mathlib.Core.Path.{◌≡◌, refl, ap, ◌∙◌}
use mathlib.Core.List.{List, [], ◌∷◌, ◌++◌}
use Prim.Native.Nat.{ℕ, zero, suc, ◌+◌, ◌*◌, ◌≤◌, ◌<◌}
use native.Mathlib.Numerals.{add-one}
use native.Mathlib.Omega.{arith}
use lib.ListN.{length}
use Rattle.laws.specs.Sums.{sum_below, sum_over}
use Rattle.laws.proofs.Each.{Each}

-- a loop's start and turn
pub sum_none : (f : ℕ → ℕ) → 0 ≡ sum_below f 0
unfolding sum_below
sum_none f = refl

pub sum_more : (f : ℕ → ℕ) (n v s : ℕ) → s ≡ sum_below f n → v ≡ f n → s + v ≡ sum_below f (n + 1)
unfolding sum_below
sum_more f n v s es ev = rw add-one (omega arith)

pub sum_same : (f g : ℕ → ℕ) (n : ℕ) → ((k : ℕ) → k < n → f k ≡ g k) → sum_below f n ≡ sum_below g n
unfolding sum_below
sum_same f g zero h = refl
sum_same f g (suc n) h =
    let a : sum_below f n ≡ sum_below g n = sum_same f g n (λ k l. h k (omega arith)) in
    let b : f n ≡ g n = h n (omega arith) in
    omega arith

pub sum-most : (f : ℕ → ℕ) (n m : ℕ) → ((k : ℕ) → f k ≤ m) → sum_below f n ≤ m * n
unfolding sum_below
sum-most f zero m h = omega arith
sum-most f (suc n) m h = omega (arith, sum-most f n m h, h n)

pub sum-least : (f : ℕ → ℕ) (n m : ℕ) → ((k : ℕ) → m ≤ f k) → m * n ≤ sum_below f n
unfolding sum_below
sum-least f zero m h = omega arith
sum-least f (suc n) m h = omega (arith, sum-least f n m h, h n)

-- summands that are no greater
pub sum_less : (f g : ℕ → ℕ) (n : ℕ) → ((k : ℕ) → f k ≤ g k) → sum_below f n ≤ sum_below g n
unfolding sum_below
sum_less f g zero h = omega arith
sum_less f g (suc n) h = omega (arith, sum_less f g n h, h n)

-- summands that are sums of two
pub sum_plus : (f g : ℕ → ℕ) (n : ℕ) → sum_below (λ k. f k + g k) n ≡ sum_below f n + sum_below g n
unfolding sum_below
sum_plus f g zero = refl
sum_plus f g (suc n) = omega (arith, sum_plus f g n)

-- a sum below a + b is that below a and the b summands after it
pub sum_split : (f : ℕ → ℕ) (a b : ℕ) → sum_below f (a + b) ≡ sum_below f a + sum_below (λ k. f (a + k)) b
unfolding sum_below
sum_split f a zero = rw (plus_zero a) (omega arith)
  where
    plus_zero : (n : ℕ) → n + 0 ≡ n
    plus_zero n = omega arith
sum_split f a (suc b) = rw (plus_suc a b) (omega (arith, sum_split f a b))
  where
    plus_suc : (n m : ℕ) → n + suc m ≡ suc (n + m)
    plus_suc n m = omega arith

-- a sum below n times m, as n rows of m summands
pub sum_rows : (f : ℕ → ℕ) (m n : ℕ) → sum_below f (n * m) ≡ sum_below (λ j. sum_below (λ k. f (j * m + k)) m) n
unfolding sum_below
sum_rows f m zero = rw (none m)
  where
    none : (k : ℕ) → 0 * k ≡ 0
    none k = omega arith
sum_rows f m (suc n) = rw (one_more n m) (sum_split f (n * m) m ∙ ap (λ (s : ℕ). s + sum_below (λ k. f (n * m + k)) m) (sum_rows f m n))
  where
    one_more : (k l : ℕ) → suc k * l ≡ k * l + l
    one_more k l = omega arith

pub sum_over-same : {X : Type 0} (f g : X → ℕ) (xs : List X) → ((x : X) → f x ≡ g x) → sum_over f xs ≡ sum_over g xs
unfolding sum_over
sum_over-same f g [] h = refl
sum_over-same f g (x ∷ xs) h = omega (arith, h x, sum_over-same f g xs h)

-- the same, where it is known of the list's own entries
pub sum_over_each : {X : Type 0} (f g : X → ℕ) (xs : List X) → Each (λ x. f x ≡ g x) xs → sum_over f xs ≡ sum_over g xs
unfolding sum_over
sum_over_each f g [] e = refl
sum_over_each f g (x ∷ xs) e = omega (arith, e.0, sum_over_each f g xs e.1)

pub sum_over-less : {X : Type 0} (f g : X → ℕ) (xs : List X) → ((x : X) → f x ≤ g x) → sum_over f xs ≤ sum_over g xs
unfolding sum_over
sum_over-less f g [] h = omega arith
sum_over-less f g (x ∷ xs) h = omega (arith, sum_over-less f g xs h, h x)

pub sum_over-append : {X : Type 0} (f : X → ℕ) (xs ys : List X) → sum_over f (xs ++ ys) ≡ sum_over f xs + sum_over f ys
unfolding sum_over
sum_over-append f [] ys = omega arith
sum_over-append f (x ∷ xs) ys = omega (arith, sum_over-append f xs ys)

pub sum_over-most : {X : Type 0} (f : X → ℕ) (xs : List X) (m : ℕ) → ((x : X) → f x ≤ m) → sum_over f xs ≤ m * length xs
unfolding sum_over
sum_over-most f [] m h = omega arith
sum_over-most f (x ∷ xs) m h = omega (arith, sum_over-most f xs m h, h x)
