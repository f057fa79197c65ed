-- `arnr::half::across` meets its contract: row after row. Assumes nothing.
use Rattle.std.proofs.Common.{arith, rules, refl}
use Rattle.laws.proofs.Tabulate.{fill_start, fill_at}
use Rattle.arnr.proofs.half.across.Goals as goal

pub loop-r-init : goal.loop-r-init
loop-r-init c = (omega arith, search rules, fill_at (omega arith) (fill_start refl))
