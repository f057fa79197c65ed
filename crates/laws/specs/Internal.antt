-- What loops keep, in private contracts. No public contract uses these definitions. Assumes nothing.
use Rattle.std.specs.Prelude.{◌≡◌, List, ℕ, ◌≤◌, length, take}
use Rattle.laws.specs.Tabulate.{tabulate}

-- a loop fills xs, of n entries, from the front by f, and has done i of them
pub record Filling (f : ℕ → ℕ) (n : ℕ) (xs : List ℕ) (i : ℕ) : Type 0 where
  pub count : i ≤ n
  pub long : length xs ≡ n
  pub done : take i xs ≡ tabulate i f
