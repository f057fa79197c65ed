-- `arnr::sad::short_row_sad` meets its contract. Assumes nothing.
use Rattle.std.specs.Prelude.{◌≡◌, ◌*◌, ◌≤◌, length}
use Rattle.laws.specs.Sums.{sum_below}
use Rattle.denoiser.specs.Internal.{row_distance}
use Rattle.arnr.proofs.sad.short_row_sad.Given as goal

abbrev pub invariant-loop-k : goal.invariant-loop-k
invariant-loop-k l = (l.k ≤ length l.a) × (l.sum ≡ sum_below (row_distance l.a l.b) l.k) × (l.sum ≤ 255 * l.k)
