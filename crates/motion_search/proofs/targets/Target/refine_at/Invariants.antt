-- `refine_at` meets its contract. Assumes nothing.
use Rattle.std.proofs.Common.{◌≡◌}
use Rattle.laws.specs.Best.{best_of}
use Rattle.prediction.specs.Filter.{taps_of}
use Rattle.search.specs.Search.{raster_of}
use Rattle.search.specs.Internal.{cost_by}
use Rattle.motion_search.proofs.targets.Target.refine_at.Given as goal

abbrev pub invariant-loop-k : goal.invariant-loop-k
invariant-loop-k l =
    (l.best.mv ≡ best_of (cost_by (taps_of l.set) l.self.plane.now l.self.site l.self.src.now) l.first.mv (raster_of l.first.mv l.step) l.k) × (l.best.sad ≡ cost_by (taps_of l.set) l.self.plane.now l.self.site l.self.src.now l.best.mv)
