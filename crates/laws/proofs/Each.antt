-- What holds of each entry of a list. Assumes nothing.
use mathlib.Core.List.{List, [], ◌∷◌, ◌++◌}

abbrev pub Each : {A : Type 0} → (A → Type 0) → List A → Type 0
Each P [] = Unit {0}
Each P (x ∷ xs) = P x × Each P xs

pub each_append : {A : Type 0} (P : A → Type 0) (xs ys : List A) → Each P xs → Each P ys → Each P (xs ++ ys)
each_append P [] ys a b = b
each_append P (x ∷ xs) ys a b = (a.0, each_append P xs ys a.1 b)

pub each_map : {A : Type 0} {P Q : A → Type 0} (step : (x : A) → P x → Q x) (xs : List A) → Each P xs → Each Q xs
each_map step [] e = tt
each_map step (x ∷ xs) e = (step x e.0, each_map step xs e.1)
