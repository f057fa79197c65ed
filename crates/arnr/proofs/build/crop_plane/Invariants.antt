-- `arnr::build::crop_plane` meets its contract. The loop's invariant: the first r rows are copied. Assumes nothing.
use Rattle.std.specs.Prelude.{pos}
use Rattle.prediction.specs.Plane.{sample_at}
use Rattle.denoiser.specs.Internal.{Stored, plane_in}
use Rattle.arnr.proofs.build.crop_plane.Given as goal

abbrev pub invariant-loop-r : goal.invariant-loop-r
invariant-loop-r l = Stored l.at l.p.columns l.r (λ x y. sample_at (plane_in l.bytes l.p) (pos x) (pos y)) l.initial.out l.out
