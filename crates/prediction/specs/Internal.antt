-- What private contracts of the SADs speak of. No public contract uses these definitions. Assumes nothing.
use Rattle.std.specs.Prelude.{List, ℕ, ◌+◌, ◌-◌, ◌*◌, ◌/◌, ◌%◌, get_or}
use Rattle.laws.specs.Sums.{sum_below}
use Rattle.prediction.specs.declared.ceiling.Ceiled.{Ceiled}
use Rattle.prediction.specs.Samples.{distance}

-- the SAD of row j of two blocks of 16 columns; each stands in a list from a place on, its rows a stride apart
unfoldable pub row_apart : List ℕ → ℕ → ℕ → List ℕ → ℕ → ℕ → ℕ → ℕ
row_apart a at stride b from across j = sum_below (λ k. distance (get_or a (at + j * stride + k) 0) (get_or b (from + j * across + k) 0)) 16

-- rows measured, below 32, plus 32 times what is left of a ceiling: the value and the rows
abbrev pub parts : ℕ → ℕ → Ceiled
parts ceiling n = record { sad = ceiling - n / 32; rows = n % 32 }
