-- `arnr::sad::square_sad` meets its contract. Assumes nothing.
use Rattle.std.proofs.Common.{arith, sym, subst, ℕ, ◌+◌}
use Rattle.prediction.specs.Ceiled.{CeiledIs}
use Rattle.prediction.proofs.Ceilings.{same_rows}
use Rattle.denoiser.specs.Internal.{luma_row}
use Rattle.denoiser.proofs.Planes.{sample-below, row_below, short-fits}
use Rattle.denoiser.proofs.Ceilings.{in_bounds, row-placed}
use Rattle.arnr.proofs.Edge.{coordinate, running}
use Rattle.arnr.proofs.sad.square_sad.Goals as goal

pub placed_sad-requires : goal.placed_sad-requires
placed_sad-requires c =
    let a = c.args in
    let p = a.p in
    let f = short-fits a.d c.requires.short in
    let x_is = coordinate p.columns a.b.x a.d.dx f.0 c.edge-left.ensures in
    let y_is = coordinate p.rows a.b.y a.d.dy f.1 c.edge-top.ensures in
    let wide = running p.columns a.b.x a.d.dx f.0 16 (c.runs_inside.ensures c.if-runs_inside.true) in
    let high = running p.rows a.b.y a.d.dy f.1 16 (c.runs_inside-then-runs_inside.ensures c.if-runs_inside-2.true) in
    let q = c.requires.columns_value in
    let i = in_bounds a.centre.now a.bytes.now p a.b a.d _ _ x_is y_is wide high (q.0, q.1) q.2 in (
      omega (arith, sample-below a.bytes.now p c.requires.fits _ _ i.0 i.1),
      omega (arith, c.requires.rows_in_bounds, row_below p.columns p.rows a.b.x (a.b.y + 15) 16 (omega (arith, q.0, q.2.wide)) (omega (arith, q.1, q.2.high))),
    )

pub returns-then-runs_inside-2 : goal.returns-then-runs_inside-2
returns-then-runs_inside-2 c =
    let a = c.args in
    let p = a.p in
    let f = short-fits a.d c.requires.short in
    let x_is = coordinate p.columns a.b.x a.d.dx f.0 c.edge-left.ensures in
    let y_is = coordinate p.rows a.b.y a.d.dy f.1 c.edge-top.ensures in
    let wide = running p.columns a.b.x a.d.dx f.0 16 (c.runs_inside.ensures c.if-runs_inside.true) in
    let high = running p.rows a.b.y a.d.dy f.1 16 (c.runs_inside-then-runs_inside.ensures c.if-runs_inside-2.true) in
    let q = c.requires.columns_value in
    subst (λ (n : ℕ). CeiledIs (luma_row a.centre.now a.bytes.now p a.b a.d) n a.ceiling c.placed_sad.result) (sym q.1)
    (same_rows _ _ 16 a.ceiling _ (row-placed a.centre.now a.bytes.now p a.b a.d _ _ x_is y_is wide high (q.0, q.1) q.2) c.placed_sad.ensures)
