-- The blend of one sample, over any list of other frames: total weight, sum, denoised sample and distance bound. Assumes nothing.
use Rattle.std.specs.Prelude.{List, ℕ, ◌+◌, ◌*◌, ◌/◌}
use Rattle.laws.specs.Sums.{sum_over}
use Rattle.laws.specs.Largest.{largest, nearest}

-- the total weight: 16 plus the other frames' shares
unfoldable pub total_weight : {F : Type 0} → (F → ℕ) → List F → ℕ
total_weight share others = 16 + sum_over share others

-- the sum: 16 times the centre sample plus each share times its displaced sample
unfoldable pub weighted_sum : {F : Type 0} → ℕ → (F → ℕ) → (F → ℕ) → List F → ℕ
weighted_sum centre share displaced others = 16 * centre + sum_over (λ f. share f * displaced f) others

-- the denoised sample: (sum + total/2) / total, both divisions rounding down
unfoldable pub denoised : ℕ → ℕ → ℕ
denoised sum total = (sum + total / 2) / total

-- the distance bound of n other frames: the largest value, over e from 0 to 255, of n e w(e) / (16 + n w(e)), rounded to nearest with halves up
unfoldable pub distance_bound : (ℕ → ℕ) → ℕ → ℕ
distance_bound weight n = largest (λ e. nearest (n * (e * weight e)) (16 + n * weight e)) 256
