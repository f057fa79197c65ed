use Rattle.std.specs.Prelude.{◌≡◌, ℕ, ◌+◌, ◌≤◌, ◌<◌, pos, length, get_or}
use Rattle.prediction.specs.Plane.{sample_at}
use Rattle.denoiser.specs.Search.{displaced_by}
use Rattle.denoiser.specs.Internal.{plane_in}
use Rattle.arnr.proofs.sad.edge_row.Given as goal

abbrev pub invariant-loop-k : goal.invariant-loop-k
invariant-loop-k l =
    (l.k ≤ l.n) × (length l.row ≡ 16) × ((j : ℕ) → j < l.k → get_or l.row j 0 ≡ displaced_by l.d (sample_at (plane_in l.bytes l.p)) (pos (l.x + j)) (pos l.y))
