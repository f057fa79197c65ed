-- `arnr::accumulate::blend_frame` meets its contract. The loop's invariant: the first i rows of blocks are added, and their accepted ones counted. Assumes nothing.
use Rattle.std.specs.Prelude.{◌≡◌, ◌*◌, ◌/◌, ◌≤◌, ltb}
use Rattle.laws.specs.Sums.{sum_below}
use Rattle.denoiser.specs.Grid.{grid_side, unit_of}
use Rattle.denoiser.specs.Window.{gate}
use Rattle.denoiser.specs.Chroma.{chosen_accepts}
use Rattle.denoiser.specs.Pictures.{picture_of}
use Rattle.denoiser.specs.Internal.{Spread, packed_scene, curve_share, curve_term}
use Rattle.arnr.proofs.accumulate.blend_frame.Given as goal

abbrev pub invariant-loop-i : goal.invariant-loop-i
invariant-loop-i l = record {
  count : l.count ≡ sum_below (λ a. sum_below (λ b. gate (chosen_accepts l.choice (packed_scene l.f.width l.f.height l.out) (picture_of l.bytes l.f) a b) 1) (grid_side l.f.width)) l.i;
  few : l.count ≤ 1024 * l.i;
  sums : Spread l.f.width l.f.height (λ k x y. gate (ltb (y / unit_of k) l.i) (curve_term l.choice l.curve.at (packed_scene l.f.width l.f.height l.out) (picture_of l.bytes l.f) k x y)) l.initial.sums l.sums;
  weights : Spread l.f.width l.f.height (λ k x y. gate (ltb (y / unit_of k) l.i) (curve_share l.choice l.curve.at (packed_scene l.f.width l.f.height l.out) (picture_of l.bytes l.f) k x y)) l.initial.weights l.weights;
}
