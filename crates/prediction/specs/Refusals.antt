-- Document 01's refusals 8, 9, 10 and 13, and document 02's 23: when each applies. Assumes nothing.
use Rattle.std.specs.Prelude.{Bool, ◌||◌, List, [], ◌∷◌, ℕ, ltb, eqb, length, replicate}
use Rattle.laws.specs.Outcome.{Outcome, refused, accepted, Line, line}
use Rattle.prediction.specs.Plane.{Plane, bytes_needed}

-- 0 or above 16383
abbrev pub bad_side : ℕ → Bool
bad_side n = eqb n 0 || ltb 16383 n

-- 8. The reference width or height is 0 or above 16383
abbrev pub bad_size : Plane → Bool
bad_size p = bad_side p.columns || bad_side p.rows

-- 9. The reference plane is shorter than (height - 1) times stride + width; asked of height 0, which 8 refuses before, it counts one row
abbrev pub short_plane : Plane → Bool
short_plane p = ltb (length p.bytes) (bytes_needed p)

-- 10. A fetch's pixel origin exceeds 16368 in either direction
abbrev pub bad_origin : ℕ → ℕ → Bool
bad_origin x y = ltb 16368 x || ltb 16368 y

-- 13. A filter selector exceeds 7
abbrev pub bad_selector : ℕ → Bool
bad_selector s = ltb 7 s

-- 23. The version exceeds 2
abbrev pub bad_version : ℕ → Bool
bad_version version = ltb 2 version

abbrev pub version_lines : ℕ → List Line
version_lines version = line 23 (bad_version version) [] ∷ []

-- the block of n samples beside an answer: the accepted one, or zeros with a refusal
abbrev pub block_of : ℕ → Outcome (List ℕ) → List ℕ
block_of n (accepted block) = block
block_of n (refused number values) = replicate n 0
