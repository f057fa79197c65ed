-- `search_all` meets its contract. Assumes nothing.
use Rattle.std.proofs.Common.{refl}
use Rattle.picture_search.proofs.Filling.{filling_start, filling_turn, filling_end}
use Rattle.picture_search.proofs.search_all.Goals as goal

pub loop-i-init : goal.loop-i-init
loop-i-init c = filling_start _ _ _ c.requires.count_in_bounds

pub loop-i-preserved : goal.loop-i-preserved
loop-i-preserved c = filling_turn _ _ _ _ _ c.loop-i.i _ c.loop-i.invariant c.loop-i-test.true refl c.search_entry.ensures.1

pub returns : goal.returns
returns c = filling_end _ _ _ _ c.loop-i.i c.loop-i.invariant c.loop-i-test.false
