-- A sum over a list does not depend on the order of its entries. Assumes nothing.
use mathlib.Core.Path.{◌≡◌, refl, ap, ◌∙◌}
use mathlib.Core.Logic.{∥∥₁_elim}
use mathlib.Core.List.{List, [], ◌∷◌, Perm, Permᴰ}
use Prim.Native.Nat.{ℕ, zero, suc}
use native.Mathlib.Nat.{ℕ_set}
use native.Mathlib.Omega.{arith}
use Rattle.laws.specs.Front.{list_of}
use Rattle.laws.specs.Sums.{sum_below, sum_over}
use Rattle.laws.proofs.Sums.{sum_over-append}

module _ {X : Type 0} (f : X → ℕ) where
  moved : {xs ys : List X} → Permᴰ xs ys → sum_over f xs ≡ sum_over f ys
  unfolding sum_over
  moved Permᴰ.nil = refl
  moved (Permᴰ.cons e d) = let h = moved d in let g = ap f e in omega arith
  moved (Permᴰ.swap e g) = let h = ap f e in let k = ap f g in omega arith
  moved (Permᴰ.trans d e) = moved d ∙ moved e

  -- over a list and over any permutation of it
  pub sum_order : (xs ys : List X) → Perm xs ys → sum_over f xs ≡ sum_over f ys
  sum_order xs ys p = ∥∥₁_elim p (ℕ_set (sum_over f xs) (sum_over f ys)) moved

  -- over the list e 0, .., e (n - 1) it is the sum below n
  pub sum-listed : (e : ℕ → X) (n : ℕ) → sum_over f (list_of n e) ≡ sum_below (λ g. f (e g)) n
  unfolding list_of sum_below sum_over
  sum-listed e zero = refl
  sum-listed e (suc n) = let a = sum_over-append f (list_of n e) (e n ∷ []) in let b = sum-listed e n in omega arith
