-- `arnr::sad::up_to` meets its contract. The loop's invariant: whatever the rows' SADs are, r of them are measured. Assumes nothing.
use Rattle.std.specs.Prelude.{◌≡◌, ℕ, ◌≤◌, ◌<◌}
use Rattle.prediction.proofs.Ceilings.{Measuring}
use Rattle.arnr.proofs.sad.up_to.Given as goal

abbrev pub invariant-loop-r : goal.invariant-loop-r
invariant-loop-r g l =
    (l.r ≤ l.n) × (l.left ≤ l.ceiling) × ((sad : ℕ → ℕ) → ((r v : ℕ) → r < l.n → goal.F-post g l.row r v → v ≡ sad r) → Measuring sad l.ceiling l.r l.left)
