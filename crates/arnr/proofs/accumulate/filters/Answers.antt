-- `arnr::accumulate::filters` meets its contract. Assumes nothing.
use Rattle.std.proofs.Common.{sym, ap, ◌∙◌, Bool, ◌&&◌, ℕ, ◌+◌, ltb, to_z-of_z}
use Rattle.denoiser.specs.Chroma.{half_row}
use Rattle.denoiser.specs.Internal.{filtered_in}
use Rattle.denoiser.proofs.Planes.{short-fits}
use Rattle.arnr.proofs.accumulate.filters.Goals as goal

pub returns-then-choice : goal.returns-then-choice
unfolding filtered_in
returns-then-choice c =
    let d = c.args.d in
    let f = short-fits d c.requires in
    let x = c.row.ensures.0 ∙ ap half_row (to_z-of_z f.0) in
    let y = c.row-then-choice.ensures.0 ∙ ap half_row (to_z-of_z f.1) in
    ap (λ (n : ℕ). ltb 0 (n + c.row-then-choice.result)) x ∙ ap (λ (n : ℕ). ltb 0 (half_row d.dx + n)) y
    ∙ ap (λ (t : Bool). t && ltb 0 (half_row d.dx + half_row d.dy)) (sym c.if-choice.true)

pub returns-else-choice : goal.returns-else-choice
unfolding filtered_in
returns-else-choice c = c.if-choice.false ∙ let d = c.args.d in ap (λ (t : Bool). t && ltb 0 (half_row d.dx + half_row d.dy)) (sym c.if-choice.false)
