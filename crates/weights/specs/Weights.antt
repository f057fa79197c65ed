-- The weight curves of document 01. Assumes nothing.
use Rattle.std.specs.Prelude.{ℕ, zero, suc, ◌+◌, ◌*◌, ◌/◌, ◌^◌, min}

-- scale s is 8 times 2 to the strength
unfoldable pub scale : ℕ → ℕ
scale strength = 8 * 2 ^ strength

-- w(e) is 16 s divided by (s + e times e), rounded down
unfoldable pub weight_of : ℕ → ℕ → ℕ
weight_of strength e = 16 * scale strength / (scale strength + e * e)

-- the weight at a strength byte: at 0 no other frame has any; 7 to 255 are read as 6
unfoldable pub weight_read : ℕ → ℕ → ℕ
weight_read zero e = 0
weight_read (suc s) e = weight_of (min (suc s) 6) e

-- the weight of a frame with a cap (document 02, request 7): the lesser of the cap and the curve's weight
unfoldable pub capped_weight : ℕ → ℕ → ℕ → ℕ
capped_weight cap strength e = min cap (weight_read strength e)
