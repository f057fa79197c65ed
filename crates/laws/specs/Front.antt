-- The list f 0, f 1, .. f (n - 1) of any element type, and a list whose first n entries are those. Assumes nothing.
use Rattle.std.specs.Prelude.{List, [], ◌∷◌, ◌++◌, ℕ, zero, suc, drop}

unfoldable pub list_of : {A : Type 0} → ℕ → (ℕ → A) → List A
list_of zero f = []
list_of (suc n) f = list_of n f ++ (f n ∷ [])

-- the first n entries by f, then what stood there
unfoldable pub front : {A : Type 0} → ℕ → (ℕ → A) → List A → List A
front n f old = list_of n f ++ drop n old
