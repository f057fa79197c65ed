-- Laws of `Raised`: a loop that adds to one place after the other.

use Rattle.std.proofs.Common.{◌≡◌, refl, ap, ◌∙◌, List, ℕ, ◌+◌, ◌≤◌, ◌<◌, not-suc-le-zero, arith, length, get_or, set, length-set, get_or-set_same, get_or-set_other}
use Rattle.std.proofs.Math.Decide.{ℕ_discrete}
use Rattle.denoiser.specs.Internal.{Raised}

pub raised_none : (f : ℕ → ℕ) (l : List ℕ) → Raised f 0 l l
raised_none f l = record { long = refl; within = λ k h. absurd (not-suc-le-zero h); past = λ k h. refl }

-- one place more: what is stored there is what stood there and f
pub raised_more : (f : ℕ → ℕ) (n v : ℕ) (old now : List ℕ) → n < length old → v ≡ get_or now n 0 + f n → Raised f n old now → Raised f (n + 1) old (set now n v)
raised_more f n v old now fits is r =
    record { long = length-set now n v ∙ r.long; within = λ k h. inside k h (ℕ_discrete k n); past = λ k h. after k h }
  where
    after : (k : ℕ) → n + 1 ≤ k → get_or (set now n v) k 0 ≡ get_or old k 0
    after k h = get_or-set_other now n k v 0 (omega arith) ∙ r.past k (omega arith)

    inside : (k : ℕ) → k < n + 1 → Dec (k ≡ n) → get_or (set now n v) k 0 ≡ get_or old k 0 + f k
    inside k h (yes e) =
        rw e
        (get_or-set_same now n v 0 (let l : length now ≡ length old = r.long in omega arith) ∙ is ∙ ap (λ (t : ℕ). t + f n) (r.past n (omega arith)))
    inside k h (no g) = get_or-set_other now n k v 0 g ∙ r.within k (omega arith)

-- a loop that fills one place after the other
pub filled_more : (f : ℕ → ℕ) (l : List ℕ) (n v : ℕ) → n < length l → v ≡ f n → ((k : ℕ) → k < n → get_or l k 0 ≡ f k)
    → (k : ℕ) → k < n + 1 → get_or (set l n v) k 0 ≡ f k
filled_more f l n v fits is h k less = by (ℕ_discrete k n)
  where
    by : Dec (k ≡ n) → get_or (set l n v) k 0 ≡ f k
    by (yes e) = rw e (get_or-set_same l n v 0 fits ∙ is)
    by (no g) = get_or-set_other l n k v 0 g ∙ h k (omega arith)
