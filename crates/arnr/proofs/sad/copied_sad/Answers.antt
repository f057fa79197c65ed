-- `arnr::sad::copied_sad` meets its contract. Assumes nothing.
use Rattle.std.proofs.Common.{rules}
use Rattle.prediction.proofs.Ceilings.{same_rows}
use Rattle.denoiser.specs.Internal.{eight_apart}
use Rattle.denoiser.proofs.Passes.{rest_is, rows_from, eight_there, eight_placed, eight_ends}
use Rattle.denoiser.proofs.Planes.{short-fits}
use Rattle.arnr.proofs.Edge.{coordinate, running}
use Rattle.arnr.proofs.sad.copied_sad.Goals as goal

pub up_to-requires : goal.up_to-requires
up_to-requires c =
    let a = c.args in
    let p = a.p in
    let f = short-fits a.d c.requires.short in
    let x_is = coordinate p.columns a.b.x a.d.dx f.0 c.edge-left.ensures in
    let y_is = coordinate p.rows a.b.y a.d.dy f.1 c.edge-top.ensures in
    let wide = running p.columns a.b.x a.d.dx f.0 8 (c.runs_inside.ensures c.if-runs_inside.true) in
    let high = running p.rows a.b.y a.d.dy f.1 a.b.rows (c.runs_inside-then-runs_inside.ensures c.if-runs_inside-2.true) in
    let there = eight_there a.out.now a.bytes.now p a.b a.d a.at _ _ x_is y_is wide high c.if-b-eq8.true c.requires.lies c.requires.fits in
    let ends = eight_ends a.at p.columns p.rows _ a.b c.if-b-eq8.true c.requires.lies c.requires.rows_in_bounds in
    record { rows_bound = c.requires.lies.low; each = λ r h. let e = ends r h in let t = there r h in search rules }

pub returns-then-runs_inside-2 : goal.returns-then-runs_inside-2
unfolding eight_apart
returns-then-runs_inside-2 c =
    let a = c.args in
    let p = a.p in
    let f = short-fits a.d c.requires.short in
    let x_is = coordinate p.columns a.b.x a.d.dx f.0 c.edge-left.ensures in
    let y_is = coordinate p.rows a.b.y a.d.dy f.1 c.edge-top.ensures in
    let wide = running p.columns a.b.x a.d.dx f.0 8 (c.runs_inside.ensures c.if-runs_inside.true) in
    let high = running p.rows a.b.y a.d.dy f.1 a.b.rows (c.runs_inside-then-runs_inside.ensures c.if-runs_inside-2.true) in
    same_rows _ _ a.b.rows a.ceiling _ (eight_placed a.out.now a.bytes.now p a.b a.d a.at _ _ x_is y_is wide high c.if-b-eq8.true c.requires.lies) (c.up_to.ensures _ (λ r v h p. search rules))

pub returns : goal.returns
returns c =
    let a = c.args in
    same_rows _ _ a.b.rows a.ceiling _ (λ i h. rows_from a.out.now a.bytes.now a.p a.b a.d a.at i) (simp (rest_is a.at a.out.now) at c.edge_sad.ensures)
