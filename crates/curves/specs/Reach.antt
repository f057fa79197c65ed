-- How far a weight curve reaches. Assumes nothing.
use Rattle.std.specs.Prelude.{cond, ℕ, zero, suc, ltb}

-- the greatest difference below n whose weight is not 0; 0 where there is none
unfoldable pub reach_of : (ℕ → ℕ) → ℕ → ℕ
reach_of weight zero = 0
reach_of weight (suc n) = cond (ltb 0 (weight n)) n (reach_of weight n)
