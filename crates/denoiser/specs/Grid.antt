-- The blocks of a picture. Assumes nothing.
use Rattle.std.specs.Prelude.{ℕ, zero, suc, ◌+◌, ◌-◌, ◌*◌, ◌/◌, min}
use Rattle.window.specs.Layout.{half}
use Rattle.denoiser.specs.declared.Block.{Block}

-- blocks are 16 by 16, cut at the right and bottom edge to bw by bh: the block in row i and column j of the grid
abbrev pub grid_block : ℕ → ℕ → ℕ → ℕ → Block
grid_block w h i j = record { x = 16 * j; y = 16 * i; columns = min 16 (w - 16 * j); rows = min 16 (h - 16 * i) }

-- the rows or columns of the grid
abbrev pub grid_side : ℕ → ℕ
grid_side n = (n + 15) / 16

-- a block at (bx, by) covers chroma from (bx/2, by/2), with half of bw and bh rounded up
abbrev pub block_in : ℕ → Block → Block
block_in zero b = b
block_in (suc k) b = record { x = b.x / 2; y = b.y / 2; columns = half b.columns; rows = half b.rows }

-- the side of a whole block in a plane: the block that covers (x, y) is in row y / unit and column x / unit of the grid
abbrev pub unit_of : ℕ → ℕ
unit_of zero = 16
unit_of (suc k) = 8
