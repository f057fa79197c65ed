-- `fill` meets its contract: row after row. Assumes nothing.
use Rattle.std.proofs.Common.{◌*◌}
use Rattle.laws.specs.Internal.{Filling}
use Rattle.fetch.specs.Square.{samples_of}
use Rattle.fetch.proofs.Square.fill.Given as goal

abbrev pub invariant-loop-r : goal.invariant-loop-r
invariant-loop-r g l = Filling (samples_of l.self) (g.row.N * g.row.N) l.out (l.r * g.row.N)
