-- What the private functions promise each other. No public contract uses these definitions. Assumes nothing.
use Rattle.std.specs.Prelude.{List, ℕ, ◌+◌, ◌-◌, ◌*◌, ◌/◌, ◌%◌, min, get_or}
use Rattle.laws.specs.Internal.{Filling}

-- two samples weighed by eighths
unfoldable pub mean_of : ℕ → ℕ → ℕ → ℕ
mean_of s x y = min (((8 - s) * x + s * y + 4) / 8) 255

-- sample i of the rows 2 to 18 of a halo, 16 columns from column 2 + right on; and the same as a byte
abbrev pub columns_of : ℕ → List ℕ → ℕ → ℕ
columns_of right halo i = get_or halo (i / 16 * 21 + i % 16 + 44 + right) 0

abbrev pub bytes_of : ℕ → List ℕ → ℕ → ℕ
bytes_of right halo i = min (columns_of right halo i) 255

-- a loop copies them, and has done i of 272
pub record Copying (right : ℕ) (halo out : List ℕ) (i : ℕ) : Type 0 where
  pub samples : Filling (columns_of right halo) 272 out i
  pub bytes : Filling (bytes_of right halo) 272 out i

-- sample i weighed with the one that stands `at` further in `next`
abbrev pub weighed_of : ℕ → ℕ → List ℕ → List ℕ → ℕ → ℕ
weighed_of s at samples next i = mean_of s (get_or samples i 0) (get_or next (i + at) 0)
