-- Laws of tabulated lists: their entries, and loops that fill an array. Assumes nothing.
use mathlib.Core.Path.{◌≡◌, refl, sym, ap, ◌∙◌, subst}
use mathlib.Core.List.{List, [], ◌∷◌, ◌++◌}
use Prim.Native.Nat.{ℕ, zero, suc, ◌+◌, ◌≤◌, ◌<◌}
use native.Mathlib.Nat.{not-suc-le-zero}
use native.Mathlib.Numerals.{add-one}
use native.Mathlib.Decide.{dec_lt}
use native.Mathlib.Omega.{arith}
use lib.ListN.{length, get_or, take, set, length-set, length-append, get_or-append}
use lib.Seq.{take-suc-set, take_all, get_or_at}
use Rattle.laws.specs.Tabulate.{tabulate}
use Rattle.laws.specs.Internal.{Filling}

pub length-tabulate : (n : ℕ) (f : ℕ → ℕ) → length (tabulate n f) ≡ n
unfolding tabulate
length-tabulate zero f = refl
length-tabulate (suc n) f = length-append (tabulate n f) (f n ∷ []) ∙ ap (λ (k : ℕ). k + 1) (length-tabulate n f) ∙ add-one n

pub get_d_tabulate : (n : ℕ) (f : ℕ → ℕ) (k d : ℕ) → k < n → get_or (tabulate n f) k d ≡ f k
unfolding tabulate
get_d_tabulate zero f k d h = absurd (not-suc-le-zero h)
get_d_tabulate (suc n) f k d h = go (λ l. get_d_tabulate n f k d l) (dec_lt k n)
  where
    go : (k < n → get_or (tabulate n f) k d ≡ f k) → Dec (k < n) → get_or (tabulate n f ++ (f n ∷ [])) k d ≡ f k
    go ih (yes l) = get_or-append (tabulate n f) (f n ∷ []) d k (omega (arith, length-tabulate n f)) ∙ ih l
    go ih (no l) =
        let e : k ≡ n = omega arith in
        get_or_at (tabulate n f) (f n) [] d k (length-tabulate n f ∙ sym e) ∙ ap f (sym e)

-- two tables with the same entries are equal
pub tabulate-same : (n : ℕ) (f g : ℕ → ℕ) → ((k : ℕ) → k < n → f k ≡ g k) → tabulate n f ≡ tabulate n g
unfolding tabulate
tabulate-same zero f g h = refl
tabulate-same (suc n) f g h = rw (tabulate-same n f g (λ k l. h k (omega arith)), h n (omega arith))

-- a loop's turn that stores f i at i, and the loop's end
pub fill_none : (f : ℕ → ℕ) (xs : List ℕ) → take 0 xs ≡ tabulate 0 f
unfolding tabulate
fill_none f xs = refl

pub fill_next : (f : ℕ → ℕ) (xs : List ℕ) (i v : ℕ) → i < length xs → take i xs ≡ tabulate i f → v ≡ f i → take (i + 1) (set xs i v) ≡ tabulate (i + 1) f
unfolding tabulate
fill_next f xs i v h e p = rw (add-one, take-suc-set xs i v h, e, p)

pub fill_all : (f : ℕ → ℕ) (xs : List ℕ) (n : ℕ) → length xs ≡ n → take n xs ≡ tabulate n f → xs ≡ tabulate n f
fill_all f xs n l e = sym (take_all n xs (omega arith)) ∙ e

-- a loop that fills xs from the front by f: its start, a turn, and its end
pub fill_start : {f : ℕ → ℕ} {n : ℕ} {xs : List ℕ} → length xs ≡ n → Filling f n xs 0
unfolding tabulate
fill_start e = record { count = omega arith; long = e; done = refl }

pub fill_turn : {f : ℕ → ℕ} {n : ℕ} {xs : List ℕ} {i v : ℕ} → Filling f n xs i → i < n → v ≡ f i → Filling f n (set xs i v) (i + 1)
fill_turn {f} {n} {xs} {i} {v} p h e =
    record { count = omega arith; long = simp length-set p.long; done = fill_next f xs i v (omega arith) p.done e }

pub fill_end : {f : ℕ → ℕ} {n : ℕ} {xs : List ℕ} {i : ℕ} → Filling f n xs i → n ≤ i → xs ≡ tabulate n f
fill_end {f} {n} {xs} {i} p h =
    let e : i ≡ n = omega arith in
    fill_all f xs n p.long (rw e at p.done)

-- the same at an equal index
pub fill_at : {f : ℕ → ℕ} {n : ℕ} {xs : List ℕ} {i j : ℕ} → i ≡ j → Filling f n xs i → Filling f n xs j
fill_at {f} {n} {xs} e h = subst (λ (k : ℕ). Filling f n xs k) e h
