-- `arnr::half::down` meets its contract. Assumes nothing.
use Rattle.std.proofs.Common.{arith, rules, refl, ◌∙◌, ap}
use Rattle.laws.proofs.Tabulate.{fill_start, fill_turn}
use Rattle.prediction.specs.Filter.{sixtap}
use Rattle.filters.specs.Internal.{filtered_list}
use Rattle.arnr.proofs.half.down.Goals as goal

pub loop-i-init : goal.loop-i-init
loop-i-init c = (fill_start refl, search rules)

pub loop-i-preserved : goal.loop-i-preserved
loop-i-preserved c =
    let l = c.loop-i in
    let v = c.passed.ensures ∙ ap (filtered_list sixtap _) c.six-support.ensures in
    (fill_turn l.invariant.0 (omega arith) v, l.invariant.1)
