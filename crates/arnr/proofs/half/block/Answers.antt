-- `arnr::half::block` meets its contract: the two passes over the samples around the block. Assumes nothing.
use Rattle.std.proofs.Common.{List, ap, ◌∙◌, ℕ}
use Rattle.std.proofs.Math.Facts.{to_z-of_z}
use Rattle.laws.specs.Tabulate.{tabulate}
use Rattle.prediction.specs.Plane.{sample_at}
use Rattle.denoiser.specs.declared.Displacement.{Displacement}
use Rattle.denoiser.specs.Search.{displaced_by}
use Rattle.denoiser.specs.Chroma.{half_row}
use Rattle.denoiser.specs.Internal.{plane_in, halo_entry, across_eight, down_eight}
use Rattle.denoiser.proofs.Halves.{passes_are}
use Rattle.denoiser.proofs.Planes.{short-fits}
use Rattle.arnr.proofs.half.block.Goals as goal

pub returns : goal.returns
returns c =
    let a = c.args in
    let d = a.d in
    let f = short-fits d c.requires.short in
    let at = sample_at (plane_in a.bytes.now a.p) in
    let mx = c.row.ensures.0 ∙ ap half_row (to_z-of_z f.0) in
    let my = c.row-2.ensures.0 ∙ ap half_row (to_z-of_z f.1) in
    let halo = c.halo-around in
    let rows = c.across-rows in
    let around = halo.ensures ∙ ap (λ (e : Displacement). tabulate 208 (halo_entry (displaced_by e at) a.x a.y)) c.halo_by.ensures.0 in
    let across = rows.ensures ∙ ap (λ (n : ℕ). tabulate 104 (across_eight n halo.result)) mx ∙ ap (λ (l : List ℕ). tabulate 104 (across_eight (half_row d.dx) l)) around in
    c.down.ensures ∙ ap (λ (n : ℕ). tabulate 64 (down_eight n rows.result)) my ∙ ap (λ (l : List ℕ). tabulate 64 (down_eight (half_row d.dy) l)) across
    ∙ passes_are d at a.x a.y
