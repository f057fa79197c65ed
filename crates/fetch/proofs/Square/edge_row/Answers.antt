-- `edge_row` meets its contract: one place of the row after the other. Assumes nothing.
use Rattle.std.proofs.Common.{ℕ, ◌*◌, arith, ap}
use Rattle.laws.proofs.Tabulate.{fill_at, fill_turn}
use Rattle.fetch.proofs.Squares.{row_room, edge-sample}
use Rattle.fetch.proofs.Square.edge_row.Goals as goal

pub loop-k-preserved : goal.loop-k-preserved
loop-k-preserved g c =
    let s = c.args.self.now in
    let row = ap (λ (m : ℕ). m * s.stride) c.cut.ensures in
    let sample = edge-sample s c.args.r c.requires.r_lt_n c.loop-k.k _ _ c.loop-k-test.true row c.cut-in-loop-k.ensures in
    fill_at (omega arith) (fill_turn c.loop-k.invariant (row_room g.row.N c.args.r c.loop-k.k c.requires.r_lt_n c.loop-k-test.true) sample)
