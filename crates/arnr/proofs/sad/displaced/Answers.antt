-- `arnr::sad::displaced` meets its contract: the clamped coordinates lie in the plane, so the sample lies in the bytes. Assumes nothing.
use Rattle.denoiser.proofs.Planes.{displaced_at_lem, short-fits}
use Rattle.arnr.proofs.Edge.{coordinate}
use Rattle.arnr.proofs.sad.displaced.Goals as goal

pub returns : goal.returns
returns c =
    let a = c.args in
    let f = short-fits a.d c.requires.short in
    displaced_at_lem a.bytes.now a.p a.d a.x a.y (coordinate _ a.x a.d.dx f.0 c.edge-cx.ensures) (coordinate _ a.y a.d.dy f.1 c.edge-cy.ensures)
