-- `edge_row` meets its contract: one place of the row after the other. Assumes nothing.
use Rattle.std.proofs.Common.{◌+◌, ◌*◌}
use Rattle.laws.specs.Internal.{Filling}
use Rattle.fetch.specs.Square.{samples_of}
use Rattle.fetch.proofs.Square.edge_row.Given as goal

abbrev pub invariant-loop-k : goal.invariant-loop-k
invariant-loop-k g l = Filling (samples_of l.self) (g.row.N * g.row.N) l.out (l.r * g.row.N + l.k)
