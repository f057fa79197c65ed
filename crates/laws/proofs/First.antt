-- Laws of the first index at which a test holds, for loops that look for it. Assumes nothing.
use mathlib.Core.Path.{◌≡◌, refl, sym, ap, ◌∙◌}
use mathlib.Core.Bool.{Bool, true, false, cond}
use Prim.Native.Nat.{ℕ, zero, suc, ◌+◌, ◌≤◌, ◌<◌}
use native.Mathlib.Decide.{dec_lt}
use native.Mathlib.Omega.{arith}
use Rattle.laws.specs.First.{first_from, first_below}

differ : true ≡ false → ⊥
differ e = let z : ◌≡◌ {A = ℕ} 0 1 = cc in omega arith

-- what is known of it: it is at most n, p holds nowhere before it, and p holds there if it is below n
pub record First (p : ℕ → Bool) (n k : ℕ) : Type 0 where
  pub most : k ≤ n
  pub none : (j : ℕ) → j < k → p j ≡ false
  pub holds : k < n → p k ≡ true

record FirstFrom (p : ℕ → Bool) (i n k : ℕ) : Type 0 where
  least : i ≤ k
  most : k ≤ i + n
  none : (j : ℕ) → i ≤ j → j < k → p j ≡ false
  holds : k < i + n → p k ≡ true

from : (p : ℕ → Bool) (n i : ℕ) → FirstFrom p i n (first_from p i n)
unfolding first_from
from p zero i = record { least = omega arith; most = omega arith; none = λ j a b. absurd (omega arith); holds = λ h. absurd (omega arith) }
from p (suc n) i = go (p i) refl (from p n (suc i))
  where
    go : (t : Bool) → p i ≡ t → FirstFrom p (suc i) n (first_from p (suc i) n) → FirstFrom p i (suc n) (cond t i (first_from p (suc i) n))
    go true e r = record { least = omega arith; most = omega arith; none = λ j a b. absurd (omega arith); holds = λ h. e }
    go false e r =
        record { least = omega (arith, r.least); most = omega (arith, r.most); none = λ j a b. at j a b (dec_lt i j); holds = λ h. r.holds (omega arith) }
      where
        at : (j : ℕ) → i ≤ j → j < first_from p (suc i) n → Dec (i < j) → p j ≡ false
        at j a b (yes l) = r.none j (omega arith) b
        at j a b (no g) = let s : j ≡ i = omega arith in ap p s ∙ e

pub is_first : (p : ℕ → Bool) (n : ℕ) → First p n (first_below p n)
is_first p n =
    let r = from p n 0 in
    record { most = omega (arith, r.most); none = λ j h. r.none j (omega arith) h; holds = λ h. r.holds (omega arith) }

-- and there is one such number only: what a loop's end hands over
pub the_first : (p : ℕ → Bool) (n k : ℕ) → First p n k → k ≡ first_below p n
the_first p n k f = go (is_first p n) (dec_lt k (first_below p n)) (dec_lt (first_below p n) k)
  where
    go : First p n (first_below p n) → Dec (k < first_below p n) → Dec (first_below p n < k) → k ≡ first_below p n
    go g (yes l) d = absurd (differ (sym (f.holds (omega (arith, g.most))) ∙ g.none k l))
    go g (no a) (yes l) = absurd (differ (sym (g.holds (omega (arith, f.most))) ∙ f.none (first_below p n) l))
    go g (no a) (no b) = omega arith

-- a loop that looks for it: what holds at its start, after a turn, and at its two ways out
abbrev pub Passed : (ℕ → Bool) → ℕ → Type 0
Passed p i = (j : ℕ) → j < i → p j ≡ false

pub pass_none : (p : ℕ → Bool) → Passed p 0
pass_none p j h = absurd (omega arith)

pub pass_more : (p : ℕ → Bool) (i : ℕ) → Passed p i → p i ≡ false → Passed p (i + 1)
pass_more p i f e j h = go (dec_lt j i)
  where
    go : Dec (j < i) → p j ≡ false
    go (yes l) = f j l
    go (no g) = let s : j ≡ i = omega arith in ap p s ∙ e

pub found : (p : ℕ → Bool) (n i : ℕ) → Passed p i → i < n → p i ≡ true → i ≡ first_below p n
found p n i f h e = the_first p n i (record { most = omega arith; none = f; holds = λ k. e })

pub not_found : (p : ℕ → Bool) (n i : ℕ) → Passed p i → i ≤ n → n ≤ i → i ≡ first_below p n
not_found p n i f h k = the_first p n i (record { most = h; none = f; holds = λ l. absurd (omega arith) })
