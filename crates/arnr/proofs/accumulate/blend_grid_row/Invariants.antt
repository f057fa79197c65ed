-- `arnr::accumulate::blend_grid_row` meets its contract. The loop's invariant: the first j blocks of the row are added, and their accepted ones counted. Assumes nothing.
use Rattle.std.specs.Prelude.{◌≡◌, ◌/◌, ◌≤◌, eqb, ltb}
use Rattle.laws.specs.Sums.{sum_below}
use Rattle.denoiser.specs.Grid.{unit_of}
use Rattle.denoiser.specs.Window.{gate}
use Rattle.denoiser.specs.Chroma.{chosen_accepts}
use Rattle.denoiser.specs.Pictures.{picture_of}
use Rattle.denoiser.specs.Internal.{Spread, packed_scene, curve_share, curve_term}
use Rattle.arnr.proofs.accumulate.blend_grid_row.Given as goal

abbrev pub invariant-loop-j : goal.invariant-loop-j
invariant-loop-j l = record {
  count : l.count ≡ sum_below (λ b. gate (chosen_accepts l.choice (packed_scene l.f.width l.f.height l.out) (picture_of l.bytes l.f) l.i b) 1) l.j;
  few : l.count ≤ l.j;
  sums : Spread l.f.width l.f.height (λ k x y. gate (eqb (y / unit_of k) l.i) (gate (ltb (x / unit_of k) l.j) (curve_term l.choice l.curve.at (packed_scene l.f.width l.f.height l.out) (picture_of l.bytes l.f) k x y))) l.initial.sums l.sums;
  weights : Spread l.f.width l.f.height (λ k x y. gate (eqb (y / unit_of k) l.i) (gate (ltb (x / unit_of k) l.j) (curve_share l.choice l.curve.at (packed_scene l.f.width l.f.height l.out) (picture_of l.bytes l.f) k x y))) l.initial.weights l.weights;
}
