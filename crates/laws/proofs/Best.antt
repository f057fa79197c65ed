-- Laws of the best of some candidates: what a loop that tries them keeps, and what is known of the best. Assumes nothing.
use mathlib.Core.Path.{◌≡◌, refl, ap, ◌∙◌}
use mathlib.Core.Bool.{Bool, true, false, cond}
use mathlib.Core.List.{List, [], ◌∷◌, ◌++◌}
use mathlib.Core.Logic.{◌⊎◌, inl, inr, ⊎_elim}
use Prim.Native.Nat.{ℕ, zero, suc, ◌+◌, ◌≤◌, ◌<◌, min}
use native.Mathlib.Nat.{le_refl, le_trans}
use native.Mathlib.Numerals.{add-one}
use native.Mathlib.Decide.{dec_lt}
use native.Mathlib.Omega.{arith}
use borrow.Author.Tests.{ltb-true, ltb-false, lt-ltb, le-ltb}
use lib.Dec.{ltb}
use Rattle.laws.specs.Best.{better_of, best_of, best_among}
use Rattle.laws.proofs.Each.{Each}

-- the ways out of code that tries one more
module _ {A : Type 0} (cost : A → ℕ) (best v : A) where
  pub better_less : cost v < cost best → v ≡ better_of cost best v
  unfolding better_of
  better_less h = simp (lt-ltb (cost v) (cost best) h)

  pub better_not : cost best ≤ cost v → best ≡ better_of cost best v
  unfolding better_of
  better_not h = simp (le-ltb (cost v) (cost best) h)

-- a candidate's cost cut at the best's: what is read is the lesser of the two, and it tells the same; a value below the best's is the candidate's own
module _ {A : Type 0} (cost : A → ℕ) (best v : A) (read : ℕ) (is : read ≡ min (cost v) (cost best)) where
  pub cut-less : read < cost best → (v ≡ better_of cost best v) × (read ≡ cost v)
  cut-less h = (better_less cost best v (omega arith), omega arith)

  pub cut-not : cost best ≤ read → best ≡ better_of cost best v
  cut-not h = better_not cost best v (omega arith)

-- a search that reads the lesser of cost and best chooses what one that reads the cost does: one candidate, and n of them
abbrev pub better_up_to : {A : Type 0} → (A → ℕ) → A → A → A
better_up_to cost best v = cond (ltb (min (cost v) (cost best)) (cost best)) v best

unfoldable pub best_up_to : {A : Type 0} → (A → ℕ) → A → (ℕ → A) → ℕ → A
best_up_to cost start f zero = start
best_up_to cost start f (suc n) = better_up_to cost (best_up_to cost start f n) (f n)

module _ {A : Type 0} (cost : A → ℕ) where
  pub better_cut : (best v : A) → better_up_to cost best v ≡ better_of cost best v
  better_cut best v = by (ltb (min (cost v) (cost best)) (cost best)) refl
    where
      by : (t : Bool) → ltb (min (cost v) (cost best)) (cost best) ≡ t → cond t v best ≡ better_of cost best v
      by true e = (cut-less cost best v (min (cost v) (cost best)) refl (ltb-true _ (cost best) e)).0
      by false e = cut-not cost best v (min (cost v) (cost best)) refl (ltb-false _ (cost best) e)

  pub cut-short-same : (start : A) (f : ℕ → A) (n : ℕ) → best_up_to cost start f n ≡ best_of cost start f n
  unfolding best_up_to best_of
  cut-short-same start f zero = refl
  cut-short-same start f (suc n) =
      better_cut (best_up_to cost start f n) (f n) ∙ ap (λ (b : A). better_of cost b (f n)) (cut-short-same start f n)

-- what is known of the best: no other is less, and it is the start or the first of the least
pub record Chosen {A : Type 0} (cost : A → ℕ) (start : A) (f : ℕ → A) (n : ℕ) (r : A) : Type 0 where
  pub at : ℕ
  pub within : at < n
  pub is : r ≡ f at
  pub better : cost r < cost start
  pub earlier : (j : ℕ) → j < at → cost r < cost (f j)

pub record Best {A : Type 0} (cost : A → ℕ) (start : A) (f : ℕ → A) (n : ℕ) (r : A) : Type 0 where
  pub least_start : cost r ≤ cost start
  pub least : (k : ℕ) → k < n → cost r ≤ cost (f k)
  pub which : (r ≡ start) ⊎ Chosen cost start f n r

module _ {A : Type 0} (cost : A → ℕ) (start : A) (f : ℕ → A) where
  pub best_is : (n : ℕ) → Best cost start f n (best_of cost start f n)
  unfolding best_of better_of
  best_is zero = record { least_start = le_refl _; least = λ k h. absurd (omega arith); which = inl refl }
  best_is (suc n) = go (best_is n) (ltb (cost (f n)) (cost (best_of cost start f n))) refl
    where
      b : A
      b = best_of cost start f n

      go : Best cost start f n b → (t : Bool) → ltb (cost (f n)) (cost b) ≡ t → Best cost start f (suc n) (cond t (f n) b)
      go i true e =
          let l = ltb-true (cost (f n)) (cost b) e in
          record {
            least_start = omega (arith, i.least_start);
            least = λ k h. at k h (dec_lt k n);
            which = inr (record { at = n; within = omega arith; is = refl; better = omega (arith, i.least_start); earlier = λ j h. omega (arith, i.least j h) });
          }
        where
          at : (k : ℕ) → k < suc n → Dec (k < n) → cost (f n) ≤ cost (f k)
          at k h (yes m) = omega (arith, i.least k m, ltb-true (cost (f n)) (cost b) e)
          at k h (no g) = let s : k ≡ n = omega arith in omega (arith, ap (λ (j : ℕ). cost (f j)) s)
      go i false e =
          record {
            least_start = i.least_start;
            least = λ k h. at k h (dec_lt k n);
            which =
                ⊎_elim (λ s. inl s)
                (λ c. inr (record { at = c.at; within = omega (arith, c.within); is = c.is; better = c.better; earlier = c.earlier })) i.which;
          }
        where
          at : (k : ℕ) → k < suc n → Dec (k < n) → cost b ≤ cost (f k)
          at k h (yes m) = i.least k m
          at k h (no g) = let s : k ≡ n = omega arith in omega (arith, ap (λ (j : ℕ). cost (f j)) s, ltb-false (cost (f n)) (cost b) e)

  -- a loop's start and turn
  pub best_none : start ≡ best_of cost start f 0
  unfolding best_of
  best_none = refl

  pub best_more : (n : ℕ) (b r : A) → b ≡ best_of cost start f n → r ≡ better_of cost b (f n) → r ≡ best_of cost start f (n + 1)
  unfolding best_of
  best_more n b r e p = rw add-one (p ∙ ap (λ (x : A). better_of cost x (f n)) e)

-- the best among a list
module _ {A : Type 0} (cost : A → ℕ) where
  pub among_append : (start : A) (xs ys : List A) → best_among cost start (xs ++ ys) ≡ best_among cost (best_among cost start xs) ys
  unfolding best_among
  among_append start [] ys = refl
  among_append start (x ∷ xs) ys = among_append (better_of cost start x) xs ys

  better_both : (start v : A) → (cost (better_of cost start v) ≤ cost start) × (cost (better_of cost start v) ≤ cost v)
  unfolding better_of
  better_both start v = by (ltb (cost v) (cost start)) refl
    where
      by : (t : Bool) → ltb (cost v) (cost start) ≡ t → (cost (cond t v start) ≤ cost start) × (cost (cond t v start) ≤ cost v)
      by true e = (omega (arith, ltb-true (cost v) (cost start) e), le_refl _)
      by false e = (le_refl _, ltb-false (cost v) (cost start) e)

  -- none of them costs less
  pub among_least : (start : A) (vs : List A) → Each (λ v. cost (best_among cost start vs) ≤ cost v) (start ∷ vs)
  unfolding best_among
  among_least start [] = (le_refl _, tt)
  among_least start (v ∷ vs) =
      let rest = among_least (better_of cost start v) vs in
      let both = better_both start v in
      (le_trans rest.0 both.0, (le_trans rest.0 both.1, rest.1))

  better_one : (P : A → Type 0) (start v : A) → P start → P v → P (better_of cost start v)
  unfolding better_of
  better_one P start v p q = by (ltb (cost v) (cost start))
    where
      by : (t : Bool) → P (cond t v start)
      by true = q
      by false = p

  -- and it is one of them: what holds of each holds of it
  pub among_one : (P : A → Type 0) (start : A) (vs : List A) → Each P (start ∷ vs) → P (best_among cost start vs)
  unfolding best_among
  among_one P start [] e = e.0
  among_one P start (v ∷ vs) e = among_one P (better_of cost start v) vs (better_one P start v e.0 e.1.0, e.1.1)
