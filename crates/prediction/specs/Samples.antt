-- Samples: numbers from 0 to 255. Assumes nothing.
use Rattle.std.specs.Prelude.{ℕ, ◌+◌, ◌-◌, min, ℤ}
use Rattle.laws.specs.Signed.{above}

-- v clamped to 0..255; `above v` is v, or 0 where v is negative
abbrev pub clamped255 : ℤ → ℕ
clamped255 v = min (above v) 255

-- the distance between two samples: the absolute value of one less the other
abbrev pub distance : ℕ → ℕ → ℕ
distance a b = (a - b) + (b - a)
