-- `arnr::half::halo` meets its contract: row after row. Assumes nothing.
use Rattle.std.proofs.Common.{arith, refl}
use Rattle.laws.proofs.Tabulate.{fill_start, fill_at}
use Rattle.arnr.proofs.half.halo.Goals as goal

pub loop-r-init : goal.loop-r-init
loop-r-init c = (omega arith, fill_at (omega arith) (fill_start refl))
