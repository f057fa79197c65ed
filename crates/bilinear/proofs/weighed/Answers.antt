-- `weighed` meets its contract. Assumes nothing.
use Rattle.std.proofs.Common.{arith, rules}
use Rattle.std.proofs.lemmas.List.{length-replicate}
use Rattle.laws.proofs.Tabulate.{fill_start, fill_turn, fill_end}
use Rattle.bilinear.proofs.weighed.Goals as goal

pub loop-i-init : goal.loop-i-init
loop-i-init g c = (fill_start (length-replicate _ 0), search rules, search rules)

pub loop-i-preserved : goal.loop-i-preserved
loop-i-preserved g c =
    let l = c.loop-i in
    (fill_turn l.invariant.0 (omega arith) c.eighths.ensures, l.invariant.1, l.invariant.2)

pub returns : goal.returns
returns g c = fill_end c.loop-i.invariant.0 (omega arith)
