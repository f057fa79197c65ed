-- `neighbour` meets its contract. Assumes nothing.
use Rattle.std.proofs.Common.{◌+ℤ◌, w16}
use Rattle.std.proofs.lemmas.Int.{to_z-of_z}
use Rattle.search.proofs.Grid.{grid-fits, near_fits}
use Rattle.motion_search.proofs.vectors.neighbour.Goals as goal

pub returns : goal.returns
returns c =
    let mv = c.args.mv in
    let near = c.requires.drow_bound in
    let row = near_fits mv.row c.args.drow c.requires.whole.row near.0 near.1 in
    let col = near_fits mv.col c.args.dcol c.requires.whole.col near.2 near.3 in
    simp (
      to_z-of_z w16 mv.row (grid-fits _ c.requires.whole.row),
      to_z-of_z w16 mv.col (grid-fits _ c.requires.whole.col),
      to_z-of_z w16 c.args.drow c.ranges.drow,
      to_z-of_z w16 c.args.dcol c.ranges.dcol,
      to_z-of_z w16 (mv.row +ℤ c.args.drow) row,
      to_z-of_z w16 (mv.col +ℤ c.args.dcol) col,
    ) at c.to_grid.ensures
