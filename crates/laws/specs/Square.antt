-- The places of a 3 by 3 square in raster order without the middle one: the neighbours that a search tries. Assumes nothing.
use Rattle.std.specs.Prelude.{cond, ℕ, ◌+◌, ◌*◌, ltb, ℤ, pos, ◌+ℤ◌, ◌-ℤ◌}

-- place k of the eight, among the nine places 0 .. 8, row by row: its row is the place / 3, its column the place % 3
abbrev pub square_place : ℕ → ℕ
square_place k = cond (ltb k 4) k (k + 1)

-- a component less one step and plus p steps, p being the row or column of a place
abbrev pub step_to : ℤ → ℕ → ℕ → ℤ
step_to v p step = v +ℤ pos (p * step) -ℤ pos step
