-- `first_rows` meets its contract. Assumes nothing.
use Rattle.std.proofs.Common.{rules, arith, refl, ◌∙◌}
use Rattle.laws.proofs.Tabulate.{fill_start, fill_turn, fill_end}
use Rattle.prediction.specs.Filter.{bilinear}
use Rattle.filters.specs.Internal.{pair_of}
use Rattle.filters.proofs.Passes.{kept_is}
use Rattle.bilinear.proofs.Mean.{bilinear-whole}
use Rattle.bilinear.proofs.first_rows.Goals as goal

pub loop-i-init : goal.loop-i-init
loop-i-init c = (fill_start refl, search rules)

pub loop-i-preserved : goal.loop-i-preserved
loop-i-preserved c =
    let l = c.loop-i in
    let rows = c.args.rows in
    let v = c.kept.ensures.1 ∙ kept_is bilinear bilinear-whole (pair_of rows l.i) in
    (fill_turn l.invariant.0 (omega arith) v, l.invariant.1)

pub returns : goal.returns
returns c = fill_end c.loop-i.invariant.0 (omega arith)
