-- the array begins with the records' numbers, and so the builder over it is the builder over them
use Rattle.altref.specs.Records.{flat}
use Rattle.altref.proofs.Laws.{array_begins}
use Rattle.altref.proofs.build_arnr_altref.Goals as goal

pub returns : goal.returns
returns c = let frames = c.args.frames.now in c.core_of.ensures (flat frames) (array_begins frames _ _ c.taken.ensures c.flatten-numbers.ensures)
