-- `columns` meets its contract. Assumes nothing.
use Rattle.std.proofs.Common.{◌*◌, ◌≡◌, length}
use Rattle.bilinear.specs.Internal.{Copying}
use Rattle.bilinear.proofs.columns.Given as goal

abbrev pub invariant-loop-r : goal.invariant-loop-r
invariant-loop-r l = (length l.halo ≡ 441) × Copying l.right l.halo l.out (l.r * 16)
