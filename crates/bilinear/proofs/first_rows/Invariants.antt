-- `first_rows` meets its contract. Assumes nothing.
use Rattle.std.proofs.Common.{◌≡◌, length}
use Rattle.laws.specs.Internal.{Filling}
use Rattle.prediction.specs.Filter.{bilinear}
use Rattle.filters.specs.Internal.{inner_down}
use Rattle.bilinear.proofs.first_rows.Given as goal

abbrev pub invariant-loop-i : goal.invariant-loop-i
invariant-loop-i l = Filling (inner_down bilinear 0 l.rows) 256 l.out l.i × (length l.rows ≡ 272)
