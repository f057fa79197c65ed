-- `weights::distance_bound` meets its contract. The invariant: `bound` is the largest over the differences passed. Assumes nothing.
use Rattle.std.proofs.Common.{◌≡◌, ℕ, ◌+◌, ◌*◌, ◌≤◌}
use Rattle.laws.specs.Largest.{largest, nearest}
use Rattle.weights.specs.Weights.{weight_read}
use Rattle.weights.proofs.distance_bound.Given as goal

-- how far n frames at the difference e move a sample
unfoldable pub moved_at : ℕ → ℕ → ℕ → ℕ
moved_at strength n e = nearest (n * (e * weight_read strength e)) (16 + n * weight_read strength e)

abbrev pub invariant-loop-e : goal.invariant-loop-e
invariant-loop-e l = (l.bound ≤ 255) × (l.bound ≡ largest (moved_at l.strength l.n) l.e)
