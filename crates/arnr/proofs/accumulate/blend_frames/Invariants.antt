-- `arnr::accumulate::blend_frames` meets its contract. The loop's invariant: the first g frames but the centre are added, and their accepted blocks counted. Assumes nothing.
use Rattle.std.specs.Prelude.{◌≡◌, ◌*◌, ◌≤◌}
use Rattle.laws.specs.Sums.{sum_over}
use Rattle.denoiser.specs.Pictures.{others_of}
use Rattle.denoiser.specs.Internal.{Spread, packed_scene, other_share, other_term, other_blocks}
use Rattle.arnr.proofs.accumulate.blend_frames.Given as goal

abbrev pub invariant-loop-g : goal.invariant-loop-g
invariant-loop-g l = record {
  total : l.total ≡ sum_over (other_blocks l.choice l.curve.at (packed_scene l.w l.h l.out)) (others_of l.bytes l.numbers l.centre l.g);
  few : l.total ≤ 1048576 * l.g;
  sums : Spread l.w l.h (λ k x y. sum_over (λ f. other_term l.choice l.curve.at (packed_scene l.w l.h l.out) f k x y) (others_of l.bytes l.numbers l.centre l.g)) l.initial.sums l.sums;
  weights : Spread l.w l.h (λ k x y. sum_over (λ f. other_share l.choice l.curve.at (packed_scene l.w l.h l.out) f k x y) (others_of l.bytes l.numbers l.centre l.g)) l.initial.weights l.weights;
}
