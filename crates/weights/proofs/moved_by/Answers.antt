-- `weights::moved_by` meets its contract: the quotient is at most the difference. Assumes nothing.
use Rattle.std.proofs.Common.{refl, ℕ, ◌+◌, ◌*◌, ◌/◌, ◌≤◌, ◌<◌, div-lt_iff_lt-mul, arith}
use Rattle.laws.specs.Largest.{nearest}
use Rattle.weights.proofs.moved_by.Goals as goal

-- a mean of n differences e and zeros is at most e
within : (n e w : ℕ) → (2 * (n * (e * w)) + (16 + n * w)) / (2 * (16 + n * w)) ≤ e
within n e w =
    let pos : 0 < 2 * (16 + n * w) = omega arith in
    let l : (2 * (n * (e * w)) + (16 + n * w)) / (2 * (16 + n * w)) < e + 1 = (div-lt_iff_lt-mul pos).1 (omega arith) in
    omega arith

pub returns : goal.returns
unfolding nearest
returns c = (refl, within c.args.n c.args.e c.args.w)
