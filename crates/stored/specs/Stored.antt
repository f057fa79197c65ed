-- Numbers in a list of bytes, the lowest byte first. Assumes nothing.
use Rattle.std.specs.Prelude.{cond, List, [], ℕ, ◌+◌, ◌*◌, ◌/◌, ◌%◌, ltb, leb, length, get_or, take, drop, ℤ, pos, ◌-ℤ◌}
use Rattle.prediction.specs.declared.motion_vector.Mv.{Mv}

-- four bytes from a place on
abbrev pub word_at : List ℕ → ℕ → ℕ
word_at bytes at = get_or bytes at 0 + get_or bytes (at + 1) 0 * 256 + get_or bytes (at + 2) 0 * 65536 + get_or bytes (at + 3) 0 * 16777216

-- number i is eight bytes; 0 where the bytes end before it does
abbrev pub number_at : List ℕ → ℕ → ℕ
number_at bytes i = cond (ltb i (length bytes / 8)) (word_at bytes (i * 8) + word_at bytes (i * 8 + 4) * 4294967296) 0

-- so many bytes from a place on; none where that runs past them
abbrev pub part_of : List ℕ → ℕ → ℕ → List ℕ
part_of bytes start len = cond (leb (start + len) (length bytes)) (take len (drop start bytes)) []

-- a 16-bit component that was stored with 32768 added
abbrev pub component_of : ℕ → ℤ
component_of n = pos (n % 65536) -ℤ pos 32768

-- a vector: the row plus 65536 times the column
abbrev pub vector_of : ℕ → Mv
vector_of n = record { row = component_of n; col = component_of (n / 65536) }
