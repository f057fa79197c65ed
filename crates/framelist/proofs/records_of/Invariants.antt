-- `framelist::records_of` meets its contract: the first g records are the first g frames. Assumes nothing.
use Rattle.framelist.specs.Lists.{Listed}
use Rattle.framelist.proofs.records_of.Given as goal

abbrev pub invariant-loop-g : goal.invariant-loop-g
invariant-loop-g l = Listed l.numbers l.g l.frames
