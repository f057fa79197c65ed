-- `columns` meets its contract. Assumes nothing.
use Rattle.std.proofs.Common.{rules, arith, refl}
use Rattle.laws.proofs.Tabulate.{fill_start, fill_end}
use Rattle.bilinear.proofs.Copies.{copied_at}
use Rattle.bilinear.proofs.columns.Goals as goal

pub loop-r-init : goal.loop-r-init
loop-r-init c = (search rules, copied_at (omega arith) (record { samples = fill_start refl; bytes = fill_start refl }))

pub loop-r-preserved : goal.loop-r-preserved
loop-r-preserved c = (search rules, copied_at (omega arith) c.copy_row.ensures)

pub returns : goal.returns
returns c =
    let i = c.loop-r.invariant.1 in
    (fill_end i.samples (omega arith), fill_end i.bytes (omega arith))
