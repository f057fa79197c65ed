-- Laws of outcomes: what is known where a call is accepted. Assumes nothing.
use mathlib.Core.Path.{◌≡◌, refl, sym, ap}
use mathlib.Core.Bool.{Bool, true, false, cond, ◌||◌}
use mathlib.Core.List.{List, [], ◌∷◌, ◌++◌}
use Prim.Native.Nat.{ℕ}
use lib.Dec.{T, eqb}
use borrow.Author.Tests.{eq-eqb}
use native.Mathlib.Omega.{arith}
use Rattle.laws.specs.Outcome.{Outcome, refused, accepted, Line, first_of}

-- a test made of two, as code that returns early gives it
pub or-first : (a b : Bool) → a ≡ true → true ≡ (a || b)
or-first a b e = simp e

pub or-second : (a b r : Bool) → a ≡ false → r ≡ b → r ≡ (a || b)
or-second a b r e f = simp (e, f)

pub or_none : (a b : Bool) → (a || b) ≡ false → (a ≡ false) × (b ≡ false)
or_none true b e = (e, cc)
or_none false b e = (refl, e)

-- where a call is accepted no line applies, and the answer is the one given
abbrev pub Skipped : List Line → Type 0
Skipped [] = T true
Skipped (l ∷ ls) = (l.test ≡ false) × Skipped ls

pub accepted-same : {A : Type 0} (a x : A) → accepted a ≡ accepted x → a ≡ x
accepted-same a x e = cc

pub never : {A : Type 0} (n : ℕ) (v : List ℕ) (x : A) → refused n v ≡ accepted x → ⊥
never n v x e = let z : ◌≡◌ {A = ℕ} 0 1 = cc in omega arith

pub skipped : {A : Type 0} (ls : List Line) (a x : A) → first_of ls a ≡ accepted x → Skipped ls
skipped [] a x e = tt
skipped (l ∷ ls) a x e = go (λ k. skipped ls a x k) l.test refl e
  where
    go : (first_of ls a ≡ accepted x → Skipped ls) → (t : Bool) → l.test ≡ t → cond t (refused l.number l.values) (first_of ls a) ≡ accepted x → (l.test ≡ false) × Skipped ls
    go ih true p k = absurd (never _ _ x k)
    go ih false p k = (p, ih k)

pub answered : {A : Type 0} (ls : List Line) (a x : A) → first_of ls a ≡ accepted x → a ≡ x
answered [] a x e = accepted-same a x e
answered (l ∷ ls) a x e = go (λ k. answered ls a x k) l.test e
  where
    go : (first_of ls a ≡ accepted x → a ≡ x) → (t : Bool) → cond t (refused l.number l.values) (first_of ls a) ≡ accepted x → a ≡ x
    go ih true k = absurd (never _ _ x k)
    go ih false k = ih k

-- a refusal has the number of one of the lines
abbrev pub has : ℕ → List Line → Bool
has n [] = false
has n (l ∷ ls) = eqb n l.number || has n ls

refused-same : {A : Type 0} (m n : ℕ) (u v : List ℕ) → ◌≡◌ {A = Outcome A} (refused m u) (refused n v) → n ≡ m
refused-same m n u v e = cc

or_right : (a b : Bool) → b ≡ true → (a || b) ≡ true
or_right true b e = refl
or_right false b e = e

pub refused-has : {A : Type 0} (ls : List Line) (a : A) (n : ℕ) (v : List ℕ) → first_of ls a ≡ refused n v → has n ls ≡ true
refused-has [] a n v e = absurd (never n v a (sym e))
refused-has (l ∷ ls) a n v e = go (λ k. refused-has ls a n v k) l.test e
  where
    go : (first_of ls a ≡ refused n v → has n ls ≡ true) → (t : Bool) → cond t (refused l.number l.values) (first_of ls a) ≡ refused n v → (eqb n l.number || has n ls) ≡ true
    go ih true k = simp (eq-eqb n l.number (refused-same l.number n l.values v k))
    go ih false k = or_right (eqb n l.number) (has n ls) (ih k)

-- where no line has the number, no call by these lines is refused with it
pub never_refused : {A : Type 0} (ls : List Line) (a : A) (n : ℕ) (v : List ℕ) → has n ls ≡ false → first_of ls a ≡ refused n v → ⊥
never_refused ls a n v h e = differ (sym (refused-has ls a n v e)) h
  where
    differ : true ≡ has n ls → has n ls ≡ false → ⊥
    differ p q = let z : ◌≡◌ {A = ℕ} 0 1 = cc in omega arith

-- two refusals that are the same are so for every kind of answer
pub refused_alike : {A B : Type 0} (m n : ℕ) (u v : List ℕ) → ◌≡◌ {A = Outcome A} (refused m u) (refused n v) → ◌≡◌ {A = Outcome B} (refused m u) (refused n v)
refused_alike m n u v e = ap anew e
  where
    anew : {A B : Type 0} → Outcome A → Outcome B
    anew (refused k w) = refused k w
    anew (accepted a) = refused 0 []

-- lines with others behind them: a refusal by the first of them stands, and where they accept, the others decide
pub refused-first : {A B : Type 0} (ls ms : List Line) (a : A) (b : B) (k : ℕ) (v : List ℕ) → first_of ls a ≡ refused k v → first_of (ls ++ ms) b ≡ refused k v
refused-first [] ms a b k v e = absurd (never k v a (sym e))
refused-first (l ∷ ls) ms a b k v e = go (λ h. refused-first ls ms a b k v h) l.test e
  where
    go : (first_of ls a ≡ refused k v → first_of (ls ++ ms) b ≡ refused k v) → (t : Bool) → cond t (refused l.number l.values) (first_of ls a) ≡ refused k v
        → cond t (refused l.number l.values) (first_of (ls ++ ms) b) ≡ refused k v
    go ih true h = refused_alike _ _ _ _ h
    go ih false h = ih h

pub accepted-first : {A B : Type 0} (ls ms : List Line) (a x : A) (b : B) → first_of ls a ≡ accepted x → first_of (ls ++ ms) b ≡ first_of ms b
accepted-first [] ms a x b e = refl
accepted-first (l ∷ ls) ms a x b e = go (λ h. accepted-first ls ms a x b h) l.test e
  where
    go : (first_of ls a ≡ accepted x → first_of (ls ++ ms) b ≡ first_of ms b) → (t : Bool) → cond t (refused l.number l.values) (first_of ls a) ≡ accepted x
        → cond t (refused l.number l.values) (first_of (ls ++ ms) b) ≡ first_of ms b
    go ih true h = absurd (never _ _ x h)
    go ih false h = ih h
