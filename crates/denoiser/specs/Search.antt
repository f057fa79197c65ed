-- The sum of absolute differences, and the block search over any cost of a displacement. Assumes nothing.
use Rattle.std.specs.Prelude.{List, [], ◌∷◌, ◌++◌, map, ℕ, zero, suc, ◌+◌, ◌/◌, ◌%◌, ℤ, pos}
use Rattle.std.specs.Int.Signed.{quot_z}
use Rattle.laws.specs.Sums.{sum_below}
use Rattle.laws.specs.Best.{best_in}
use Rattle.laws.specs.Square.{square_place, step_to}
use Rattle.prediction.specs.Samples.{distance}
use Rattle.prediction.specs.Plane.{Samples, moved_by}
use Rattle.denoiser.specs.declared.Block.{Block}
use Rattle.denoiser.specs.declared.Displacement.{Displacement}

-- the sum of absolute differences (SAD) of two sample functions over a rectangle
unfoldable pub sad_of : Samples → Samples → Block → ℕ
sad_of a b r =
    sum_below (λ i. sum_below (λ j. distance (a (pos (r.x + j)) (pos (r.y + i))) (b (pos (r.x + j)) (pos (r.y + i)))) r.columns) r.rows

-- the samples moved by a displacement: at (x, y) stands the sample of (x + dx, y + dy)
abbrev pub displaced_by : Displacement → Samples → Samples
displaced_by d at = moved_by d.dx d.dy at

abbrev pub still : Displacement
still = record { dx = pos 0; dy = pos 0 }

-- the eight neighbours at a step, rows top to bottom and left to right in a row
unfoldable pub neighbour_of : Displacement → ℕ → ℕ → Displacement
neighbour_of d step k = record { dx = step_to d.dx (square_place k % 3) step; dy = step_to d.dy (square_place k / 3) step }

unfoldable pub neighbours_of : Displacement → ℕ → List Displacement
neighbours_of d step = map (neighbour_of d step) (0 ∷ 1 ∷ 2 ∷ 3 ∷ 4 ∷ 5 ∷ 6 ∷ 7 ∷ [])

-- one step, after some displacements were measured: the eight neighbours of the best at the beginning of the step are measured too
unfoldable pub stepped : (Displacement → ℕ) → ℕ → List Displacement → List Displacement
stepped cost step measured = measured ++ neighbours_of (best_in cost still measured) step

-- the displacements that one search measures: (0, 0), then those of the steps 8, 4, 2, 1
unfoldable pub measured_by : (Displacement → ℕ) → List Displacement
measured_by cost = stepped cost 1 (stepped cost 2 (stepped cost 4 (stepped cost 8 (still ∷ []))))

-- the block search: the best of all that it measures; only a strictly smaller cost replaces the best
unfoldable pub block_search : (Displacement → ℕ) → Displacement
block_search cost = best_in cost still (measured_by cost)

-- the chroma displacement is the luma displacement halved toward zero
abbrev pub halved : ℤ → ℤ
halved v = quot_z v (pos 2)

abbrev pub displacement_in : ℕ → Displacement → Displacement
displacement_in zero d = d
displacement_in (suc k) d = record { dx = halved d.dx; dy = halved d.dy }
