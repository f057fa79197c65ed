-- `arnr::half::across_row` meets its contract. Assumes nothing.
use Rattle.std.proofs.Common.{◌≤◌, ◌+◌, ◌*◌, ◌≡◌, length}
use Rattle.laws.specs.Internal.{Filling}
use Rattle.denoiser.specs.Internal.{across_eight}
use Rattle.arnr.proofs.half.across_row.Given as goal

abbrev pub invariant-loop-k : goal.invariant-loop-k
invariant-loop-k l = (l.k ≤ 8) × (length l.halo ≡ 208) × Filling (across_eight l.s l.halo) 104 l.out (l.r * 8 + l.k)
