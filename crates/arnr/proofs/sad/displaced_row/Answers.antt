-- `arnr::sad::displaced_row` meets its contract: columns that all lie in the plane once moved stand side by side. Assumes nothing.
use Rattle.std.proofs.Common.{arith, ap, ◌∙◌, ◌≡◌, ℕ, ◌+◌, ◌*◌, get_or}
use Rattle.denoiser.proofs.Ceilings.{moved}
use Rattle.denoiser.proofs.Planes.{displaced_at_lem, short-fits}
use Rattle.arnr.proofs.Edge.{coordinate, running}
use Rattle.arnr.proofs.sad.displaced_row.Goals as goal

beside : (a b k : ℕ) → a + b + k ≡ a + (b + k)
beside a b k = omega arith

pub returns-then-runs_inside : goal.returns-then-runs_inside
returns-then-runs_inside c =
    let a = c.args in
    let p = a.p in
    let f = short-fits a.d c.requires.short in
    let runs = running p.columns a.x a.d.dx f.0 a.n (c.runs_inside.ensures c.if-runs_inside.true) in
    let column = coordinate p.columns a.x a.d.dx f.0 c.edge-cx.ensures in
    let line = coordinate p.rows a.y a.d.dy f.1 c.edge-cy.ensures in λ k h.
    c.inner_row.ensures k h
    ∙ ap (λ (i : ℕ). get_or a.bytes.now i 0) (beside (p.start + c.edge-cy.result * p.stride) c.edge-cx.result k)
    ∙ displaced_at_lem a.bytes.now p a.d (a.x + k) a.y (moved a.n p.columns a.x c.edge-cx.result k a.d.dx column runs h) line
