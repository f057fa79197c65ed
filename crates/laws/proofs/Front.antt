-- Laws of a list whose front is given: its entries, and loops that fill the front, one store a turn. Assumes nothing.
use mathlib.Core.Path.{◌≡◌, refl, sym, ap, ap₂, ◌∙◌}
use mathlib.Core.List.{List, [], ◌∷◌, ◌++◌}
use Prim.Native.Nat.{ℕ, zero, suc, ◌+◌, ◌-◌, ◌≤◌, ◌<◌}
use native.Mathlib.Nat.{not-suc-le-zero, le_refl}
use native.Mathlib.Numerals.{add-one}
use native.Mathlib.Decide.{dec_lt}
use native.Mathlib.Omega.{arith}
use lib.ListN.{length, get_or, take, drop, set, length-set, length-append, length-drop, take-append-drop, get_or-append}
use lib.Seq.{take-suc, take-length, take-suc-set, drop-set-lt, drop-drop, get_or_at, get_or-drop, get_or-append-add}
use Rattle.laws.specs.Tabulate.{tabulate}
use Rattle.laws.specs.Outcome.{Outcome, refused, accepted, after}
use Rattle.laws.specs.Front.{list_of, front}

module _ {A : Type 0} where
  length-list_of : (n : ℕ) (f : ℕ → A) → length (list_of n f) ≡ n
  unfolding list_of
  length-list_of zero f = refl
  length-list_of (suc n) f = length-append (list_of n f) (f n ∷ []) ∙ ap (λ (k : ℕ). k + 1) (length-list_of n f) ∙ add-one n

  get_or-list_of : (n : ℕ) (f : ℕ → A) (k : ℕ) (d : A) → k < n → get_or (list_of n f) k d ≡ f k
  unfolding list_of
  get_or-list_of zero f k d h = absurd (not-suc-le-zero h)
  get_or-list_of (suc n) f k d h = go (λ l. get_or-list_of n f k d l) (dec_lt k n)
    where
      go : (k < n → get_or (list_of n f) k d ≡ f k) → Dec (k < n) → get_or (list_of n f ++ (f n ∷ [])) k d ≡ f k
      go ih (yes l) = get_or-append (list_of n f) (f n ∷ []) d k (omega (arith, length-list_of n f)) ∙ ih l
      go ih (no l) =
          let e : k ≡ n = omega arith in
          get_or_at (list_of n f) (f n) [] d k (length-list_of n f ∙ sym e) ∙ ap f (sym e)

  -- a list by its own entries
  pub list_of-back : (l : List A) (d : A) → list_of (length l) (λ k. get_or l k d) ≡ l
  unfolding list_of
  list_of-back l d = first (length l) (le_refl (length l)) ∙ take-length l
    where
      first : (n : ℕ) → n ≤ length l → list_of n (λ k. get_or l k d) ≡ take n l
      first zero h = refl
      first (suc n) h = ap (λ (t : List A). t ++ (get_or l n d ∷ [])) (first n (omega arith)) ∙ sym (take-suc l n d h)

  -- the entries: those of the front are given, the others are as they were, and there are as many
  pub front_at : (n : ℕ) (f : ℕ → A) (old : List A) (k : ℕ) (d : A) → k < n → get_or (front n f old) k d ≡ f k
  unfolding front
  front_at n f old k d h = get_or-append (list_of n f) (drop n old) d k (omega (arith, length-list_of n f)) ∙ get_or-list_of n f k d h

  pub front-past : (n : ℕ) (f : ℕ → A) (old : List A) (k : ℕ) (d : A) → n ≤ k → get_or (front n f old) k d ≡ get_or old k d
  unfolding front
  front-past n f old k d h =
      let l = length-list_of n f in
      let k-is : k ≡ length (list_of n f) + (k - n) = omega arith in
      let j-is : n + (k - n) ≡ k = omega arith in
      ap (λ (i : ℕ). get_or (list_of n f ++ drop n old) i d) k-is
      ∙ get_or-append-add (list_of n f) (drop n old) (k - n) d
      ∙ get_or-drop n old (k - n) d
      ∙ ap (λ (i : ℕ). get_or old i d) j-is

  pub front_length : (n : ℕ) (f : ℕ → A) (old : List A) → n ≤ length old → length (front n f old) ≡ length old
  unfolding front
  front_length n f old h = length-append (list_of n f) (drop n old) ∙ omega (arith, length-list_of n f, length-drop n old)

  -- entries that are the same give the same front
  list_of-same : (n : ℕ) (f g : ℕ → A) → ((k : ℕ) → k < n → f k ≡ g k) → list_of n f ≡ list_of n g
  unfolding list_of
  list_of-same zero f g h = refl
  list_of-same (suc n) f g h = ap₂ (λ (l : List A) (a : A). l ++ (a ∷ [])) (list_of-same n f g (λ k l. h k (omega arith))) (h n (omega arith))

  pub front_same : (n : ℕ) (f g : ℕ → A) (old : List A) → ((k : ℕ) → k < n → f k ≡ g k) → front n f old ≡ front n g old
  unfolding front
  front_same n f g old h = ap (λ (l : List A). l ++ drop n old) (list_of-same n f g h)

  -- a loop fills the front: i of n entries are done, the others are as they were
  pub record Fronting (f : ℕ → A) (n : ℕ) (old now : List A) (i : ℕ) : Type 0 where
    pub count : i ≤ n
    pub room : n ≤ length old
    pub long : length now ≡ length old
    pub done : take i now ≡ list_of i f
    pub rest : drop i now ≡ drop i old

  -- its start, a turn that stores f i at i, and its end
  pub front-start : (f : ℕ → A) (n : ℕ) (old : List A) → n ≤ length old → Fronting f n old old 0
  unfolding list_of
  front-start f n old h = record { count = omega arith; room = h; long = refl; done = refl; rest = refl }

  pub front_turn : (f : ℕ → A) (n : ℕ) (old now : List A) (i : ℕ) (v : A) → Fronting f n old now i → i < n → v ≡ f i → Fronting f n old (set now i v) (i + 1)
  unfolding list_of
  front_turn f n old now i v p h e =
      record {
        count = omega arith;
        room = p.room;
        long = simp length-set p.long;
        done = rw (add-one i) (take-suc-set now i v (omega (arith, p.long, p.room)) ∙ ap₂ (λ (l : List A) (a : A). l ++ (a ∷ [])) p.done e);
        rest = drop-set-lt (i + 1) now i v (omega arith) ∙ sym (drop-drop 1 i now) ∙ ap (drop 1) p.rest ∙ drop-drop 1 i old;
      }

  pub front_end : (f : ℕ → A) (n : ℕ) (old now : List A) (i : ℕ) → Fronting f n old now i → n ≤ i → now ≡ front n f old
  unfolding front
  front_end f n old now i p h =
      let e : i ≡ n = omega (arith, p.count) in
      sym (take-append-drop i now) ∙ ap₂ (λ (a b : List A). a ++ b) (p.done ∙ ap (λ (k : ℕ). list_of k f) e) (p.rest ∙ ap (λ (k : ℕ). drop k old) e)

-- a table of numbers is such a list
pub list_of-table : (n : ℕ) (f : ℕ → ℕ) → list_of n f ≡ tabulate n f
unfolding list_of tabulate
list_of-table zero f = refl
list_of-table (suc n) f = ap (λ (l : List ℕ). l ++ (f n ∷ [])) (list_of-table n f)

-- what a lent list holds after an outcome that is known
pub after-accepted : {A B : Type 0} {o : Outcome A} {m : A} (old new : B) → o ≡ accepted m → after o old new ≡ new
after-accepted old new e = ap (λ (x : Outcome _). after x old new) e

pub after-refused : {A B : Type 0} {o : Outcome A} {k : ℕ} {v : List ℕ} (old new : B) → o ≡ refused k v → after o old new ≡ old
after-refused old new e = ap (λ (x : Outcome _). after x old new) e
