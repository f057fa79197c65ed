-- `fill` meets its contract: row after row. Assumes nothing.
use Rattle.std.proofs.Common.{arith}
use Rattle.laws.proofs.Tabulate.{fill_start, fill_at}
use Rattle.fetch.proofs.Square.fill.Goals as goal

pub loop-r-init : goal.loop-r-init
loop-r-init g c = fill_at (omega arith) (fill_start c.requires)
