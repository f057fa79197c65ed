-- `arnr::half::down` meets its contract. Assumes nothing.
use Rattle.std.proofs.Common.{◌≡◌, length}
use Rattle.laws.specs.Internal.{Filling}
use Rattle.denoiser.specs.Internal.{down_eight}
use Rattle.arnr.proofs.half.down.Given as goal

abbrev pub invariant-loop-i : goal.invariant-loop-i
invariant-loop-i l = Filling (down_eight l.s l.rows) 64 l.out l.i × (length l.rows ≡ 104)
