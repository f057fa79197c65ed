-- `eighths` meets its contract: no sum exceeds 2044. Assumes nothing.
use Rattle.std.proofs.Common.{arith, mul-le-mul, ℕ, ◌-◌, ◌*◌, ◌≤◌, ◌<◌}
use Rattle.bilinear.specs.Internal.{mean_of}
use Rattle.bilinear.proofs.eighths.Goals as goal

-- a product with a sample
bound : (t x : ℕ) → x < 256 → t * x ≤ t * 255
bound t x h = mul-le-mul {n₂ = t} {m₂ = 255} (omega arith) (omega arith)

pub returns : goal.returns
unfolding mean_of
returns c = omega (arith, bound (8 - c.args.s) c.args.x (omega arith), bound c.args.s c.args.y (omega arith))
