-- The laws of the diamond at the SAD of a macroblock. Assumes nothing.
use Rattle.std.proofs.Common.{◌≡◌, false, List, ℕ, ◌≤◌, ◌<◌, arith, get_or}
use Rattle.prediction.specs.declared.motion_vector.Mv.{Mv}
use Rattle.prediction.specs.Plane.{Plane}
use Rattle.search.specs.Sad.{cost_of}
use Rattle.search.specs.Search.{gridded, diamond}
use Rattle.search.specs.Refusals.{out_of_range, off_grid}
use Rattle.search.proofs.Grid.{whole-inside, whole_multiple}
use Rattle.search.proofs.SadLaws.{cost_most}
use Rattle.search.proofs.Descent.{Settled, diamond_good, rounds_fall, sads-most, no_better}

module _ (plane : Plane) (column row : ℕ) (src : List ℕ) (samples : (i : ℕ) → get_or src i 0 < 256) (centre : Mv) (limit : ℕ) where
  -- with a limit of 65281 or more no neighbour of the result has a smaller SAD
  pub luma_no_better : 65281 ≤ limit → Settled (cost_of plane column row src) (diamond (cost_of plane column row src) centre limit).mv
  luma_no_better h = no_better (cost_of plane column row src) centre limit (λ v. cost_most plane column row src v samples) h

  -- both counts are far below 4294967296, at any limit
  pub luma_rounds : (diamond (cost_of plane column row src) centre limit).rounds ≤ 65281
  luma_rounds =
      omega (arith, rounds_fall (cost_of plane column row src) centre limit, cost_most plane column row src (gridded centre) samples)

  pub luma_sads : (diamond (cost_of plane column row src) centre limit).sads ≤ 261125
  luma_sads = omega (arith, sads-most (cost_of plane column row src) centre limit, luma_rounds)

-- the diamond's result is a centre that the half refinement accepts, over any cost
module _ (cost : Mv → ℕ) (centre : Mv) (limit : ℕ) where
  pub diamond-inside : out_of_range (diamond cost centre limit).mv ≡ false
  diamond-inside = whole-inside _ (diamond_good cost centre limit).grid

  pub diamond_multiple : off_grid 4 (diamond cost centre limit).mv ≡ false
  diamond_multiple = whole_multiple _ (diamond_good cost centre limit).grid
