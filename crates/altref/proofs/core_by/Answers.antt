-- `altref::core_by` meets its contract: refusals 1 and 2 by their definition, all else by the contract of the builder over numbers. Assumes nothing.
use Rattle.altref.proofs.Refuses.{no_centre, too_many}
use Rattle.altref.proofs.core_by.Goals as goal

pub returns-then-count-centre : goal.returns-then-count-centre
returns-then-count-centre c xs b = no_centre _ _ xs _ _ _ _ b.0 c.if-count-centre.true

pub returns-then-count-gt-MAX_FRAMES : goal.returns-then-count-gt-MAX_FRAMES
returns-then-count-gt-MAX_FRAMES c xs b = too_many _ _ xs _ _ _ _ b.0 c.if-count-centre.false c.if-count-gt-MAX_FRAMES.true

pub returns : goal.returns
returns c xs b =
    let few = c.if-count-gt-MAX_FRAMES.false in
    rw (b.1 few) at c.build_by.ensures
