-- `weighed` meets its contract. Assumes nothing.
use Rattle.std.proofs.Common.{◌≡◌, length}
use Rattle.laws.specs.Internal.{Filling}
use Rattle.bilinear.specs.Internal.{weighed_of}
use Rattle.bilinear.proofs.weighed.Given as goal

abbrev pub invariant-loop-i : goal.invariant-loop-i
invariant-loop-i g l = Filling (weighed_of l.s l.at l.samples l.next) g.row.N l.out l.i × (length l.samples ≡ 272) × (length l.next ≡ 272)
