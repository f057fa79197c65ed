use Rattle.std.proofs.Common.{arith, rules, refl}
use Rattle.laws.proofs.Tabulate.{fill_start, fill_end, fill_at}
use Rattle.sixtap.proofs.sixtap_horiz.Goals as goal

pub loop-r-init : goal.loop-r-init
loop-r-init g c = (search rules, λ f h. fill_at (omega arith) (fill_start refl))

pub loop-r-preserved : goal.loop-r-preserved
loop-r-preserved g c = (search rules, λ f h. fill_at (omega arith) (c.horiz_row.ensures f h))

pub returns : goal.returns
returns g c = λ f h. fill_end (c.loop-r.invariant.1 f h) (omega arith)
