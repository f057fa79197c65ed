-- `copy_row` meets its contract. Assumes nothing.
use Rattle.std.proofs.Common.{◌+◌, ◌*◌, ◌≡◌, length}
use Rattle.bilinear.specs.Internal.{Copying}
use Rattle.bilinear.proofs.copy_row.Given as goal

abbrev pub invariant-loop-k : goal.invariant-loop-k
invariant-loop-k l = (length l.halo ≡ 441) × Copying l.right l.halo l.out (l.r * 16 + l.k)
