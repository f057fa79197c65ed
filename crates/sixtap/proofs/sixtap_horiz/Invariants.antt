use Rattle.std.proofs.Common.{◌≡◌, List, ℕ, ◌*◌, length}
use Rattle.laws.specs.Internal.{Filling}
use Rattle.sixtap.specs.Internal.{Gives, across}
use Rattle.sixtap.proofs.sixtap_horiz.Given as goal

abbrev pub invariant-loop-r : goal.invariant-loop-r
invariant-loop-r g l = (length l.halo ≡ 441) × ((f : List ℕ → ℕ) → Gives (goal.F-post g l.sample) f → Filling (across f l.halo) 336 l.out (l.r * 16))
