use Rattle.std.proofs.Common.{◌≡◌, List, ℕ, length}
use Rattle.laws.specs.Internal.{Filling}
use Rattle.sixtap.specs.Internal.{Gives, down}
use Rattle.sixtap.proofs.sixtap_vert.Given as goal

abbrev pub invariant-loop-i : goal.invariant-loop-i
invariant-loop-i g l = (length l.rows ≡ 336) × ((f : List ℕ → ℕ) → Gives (goal.F-post g l.sample) f → Filling (down f l.rows) 256 l.out l.i)
