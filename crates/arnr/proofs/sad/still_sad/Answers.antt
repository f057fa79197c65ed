-- `arnr::sad::still_sad` meets its contract. Assumes nothing.
use Rattle.std.proofs.Common.{◌≡◌, sym, subst, ℕ, ◌+◌, ◌≤◌, arith, pos, ◌+ℤ◌}
use Rattle.laws.proofs.Signed.{sum}
use Rattle.prediction.specs.Plane.{nearest_in}
use Rattle.prediction.specs.Ceiled.{CeiledIs}
use Rattle.prediction.proofs.Ceilings.{same_rows}
use Rattle.denoiser.specs.Search.{still}
use Rattle.denoiser.specs.Internal.{Runs, luma_row}
use Rattle.denoiser.proofs.Planes.{sample-below, row_below}
use Rattle.denoiser.proofs.Ceilings.{row-placed}
use Rattle.arnr.proofs.sad.still_sad.Goals as goal

-- sixteen coordinates from x on that are not moved: x is the first of them, and they lie where they lay
module _ (x n : ℕ) (h : x + 16 ≤ n) where
  unmoved : x ≡ nearest_in n (pos x +ℤ pos 0)
  unmoved = omega (arith, (sum (pos x) (pos 0)).up)

  stays : Runs x 16 (pos 0) n
  stays = record { some = omega arith; left = omega arith; right = omega arith }

pub placed_sad-requires : goal.placed_sad-requires
placed_sad-requires c =
    let q = c.requires.lies in
    let columns = c.if-b-eq16.true in
    let rows = c.if-b-eq16-2.true in (
      omega (arith, sample-below c.args.bytes.now c.args.p c.requires.fits (c.args.b.x + 15) (c.args.b.y + 15) (omega (arith, columns, q.wide)) (omega (arith, rows, q.high))),
      omega (arith, c.requires.rows_in_bounds, row_below c.args.p.columns c.args.p.rows c.args.b.x (c.args.b.y + 15) 16 (omega (arith, columns, q.wide)) (omega (arith, rows, q.high))),
    )

pub returns-then-b-eq16-2 : goal.returns-then-b-eq16-2
returns-then-b-eq16-2 c =
    let q = c.requires.lies in
    let columns = c.if-b-eq16.true in
    let rows = c.if-b-eq16-2.true in
    let wide : c.args.b.x + 16 ≤ c.args.p.columns = omega (arith, columns, q.wide) in
    let high : c.args.b.y + 16 ≤ c.args.p.rows = omega (arith, rows, q.high) in
    subst (λ (n : ℕ). CeiledIs (luma_row c.args.centre.now c.args.bytes.now c.args.p c.args.b still) n c.args.ceiling c.placed_sad.result) (sym rows)
    (same_rows _ _ 16 c.args.ceiling _
    (row-placed c.args.centre.now c.args.bytes.now c.args.p c.args.b still _ _ (unmoved _ _ wide) (unmoved _ _ high) (stays _ _ wide) (stays _ _ high) (columns, rows) q)
    c.placed_sad.ensures)
