-- `arnr::sad::sad` meets its contract. Assumes nothing.
use Rattle.std.specs.Prelude.{◌≡◌, ◌*◌, ◌≤◌}
use Rattle.laws.specs.Sums.{sum_below}
use Rattle.denoiser.specs.Internal.{row_distance}
use Rattle.arnr.proofs.sad.sad.Given as goal

abbrev pub invariant-loop-k : goal.invariant-loop-k
invariant-loop-k g l = (l.k ≤ g.row.N) × (l.sum ≡ sum_below (row_distance l.a l.b) l.k) × (l.sum ≤ 255 * l.k)
