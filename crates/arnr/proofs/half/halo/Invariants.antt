-- `arnr::half::halo` meets its contract: row after row. Assumes nothing.
use Rattle.std.proofs.Common.{◌≤◌, ◌*◌}
use Rattle.laws.specs.Internal.{Filling}
use Rattle.prediction.specs.Plane.{sample_at}
use Rattle.denoiser.specs.Search.{displaced_by}
use Rattle.denoiser.specs.Internal.{plane_in, halo_entry}
use Rattle.arnr.proofs.half.halo.Given as goal

abbrev pub invariant-loop-r : goal.invariant-loop-r
invariant-loop-r l = (l.r ≤ 13) × Filling (halo_entry (displaced_by l.d (sample_at (plane_in l.bytes l.p))) l.x l.y) 208 l.out (l.r * 16)
