-- `arnr::half::halo_row` meets its contract. Assumes nothing.
use Rattle.std.specs.Prelude.{◌+◌, ◌*◌, ◌≤◌}
use Rattle.laws.specs.Internal.{Filling}
use Rattle.prediction.specs.Plane.{sample_at}
use Rattle.denoiser.specs.Search.{displaced_by}
use Rattle.denoiser.specs.Internal.{plane_in, halo_entry}
use Rattle.arnr.proofs.half.halo_row.Given as goal

abbrev pub invariant-loop-k : goal.invariant-loop-k
invariant-loop-k l = (l.k ≤ 16) × Filling (halo_entry (displaced_by l.fn.d (sample_at (plane_in l.bytes l.fn.p))) l.x l.y) 208 l.out (l.r * 16 + l.k)
