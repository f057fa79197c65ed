-- `arnr::half::across` meets its contract: row after row. Assumes nothing.
use Rattle.std.proofs.Common.{◌≤◌, ◌*◌, ◌≡◌, length}
use Rattle.laws.specs.Internal.{Filling}
use Rattle.denoiser.specs.Internal.{across_eight}
use Rattle.arnr.proofs.half.across.Given as goal

abbrev pub invariant-loop-r : goal.invariant-loop-r
invariant-loop-r l = (l.r ≤ 13) × (length l.halo ≡ 208) × Filling (across_eight l.s l.halo) 104 l.out (l.r * 8)
