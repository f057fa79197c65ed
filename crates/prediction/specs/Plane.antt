-- A plane of samples in a list of bytes, whose edge samples repeat. Assumes nothing.
use Rattle.std.specs.Prelude.{List, ℕ, ◌+◌, ◌-◌, ◌*◌, min, ℤ, ◌+ℤ◌, get_or}
use Rattle.laws.specs.Signed.{above}

-- the sample at any column and row
abbrev pub Samples : Type 0
Samples = ℤ → ℤ → ℕ

-- where the first sample stands, the bytes from row to row, and the size
pub record Plane : Type 0 where
  pub bytes : List ℕ
  pub start : ℕ
  pub stride : ℕ
  pub columns : ℕ
  pub rows : ℕ

-- a reference plane: its first sample is the first byte
abbrev pub luma_plane : List ℕ → ℕ → ℕ → ℕ → Plane
luma_plane bytes stride width height = record { bytes = bytes; start = 0; stride = stride; columns = width; rows = height }

-- the bytes that the plane needs: start + (rows - 1) times stride + columns; a plane of no rows counts as one of one row
abbrev pub bytes_needed : Plane → ℕ
bytes_needed p = p.start + (p.rows - 1) * p.stride + p.columns

-- the coordinate among 0 .. n - 1 that is nearest to z
abbrev pub nearest_in : ℕ → ℤ → ℕ
nearest_in n z = min (above z) (n - 1)

-- the sample at column x and row y; outside the plane, its nearest edge sample
unfoldable pub sample_at : Plane → Samples
sample_at p x y = get_or p.bytes (p.start + nearest_in p.rows y * p.stride + nearest_in p.columns x) 0

-- the same samples, seen from column dx and row dy
abbrev pub moved_by : ℤ → ℤ → Samples → Samples
moved_by dx dy at x y = at (x +ℤ dx) (y +ℤ dy)
