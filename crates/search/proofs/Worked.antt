-- Worked searches, by which the definitions can be told from others that resemble them. Assumes nothing.
use Rattle.std.proofs.Common.{◌≡◌, refl, cond, [], ◌∷◌, ℕ, ℤ, pos, neg_ℤ}
use Rattle.laws.specs.Best.{better_of, best_of}
use Rattle.laws.specs.Outcome.{refused, first_of}
use Rattle.prediction.specs.declared.motion_vector.Mv.{Mv}
use Rattle.prediction.specs.Plane.{luma_plane}
use Rattle.search.specs.Search.{same_mv, tried, round_of, descend, start_at, diamond, raster_of, refine}
use Rattle.search.specs.Refusals.{grid_lines}

abbrev p : ℕ → ℤ
p n = pos n

abbrev m : ℕ → ℤ
m n = neg_ℤ (pos n)

abbrev at : ℤ → ℤ → Mv
at row col = record { row = row; col = col }

-- a SAD of 9 everywhere, and two vectors with SADs of their own
abbrev priced : Mv → ℕ → Mv → ℕ → Mv → ℕ
priced a i b j v = cond (same_mv v a) i (cond (same_mv v b) j 9)

abbrev flat : Mv → ℕ
flat v = 9

-- all SADs equal: the centre stays, after one round that measures four neighbours
pub settled : diamond flat (at (p 0) (p 0)) 5 ≡ record { mv = at (p 0) (p 0); sad = 9; sads = 5; rounds = 1 }
unfolding tried round_of descend start_at diamond
settled = refl

-- a centre beyond the range begins at 1020, where two of the four neighbours are skipped
pub cornered : diamond flat (at (p 2000) (p 2000)) 5 ≡ record { mv = at (p 1020) (p 1020); sad = 9; sads = 3; rounds = 1 }
unfolding tried round_of descend start_at diamond
cornered = refl

-- up and left with the same SAD: up comes first
pub up_first : (diamond (priced (at (m 4) (p 0)) 5 (at (p 0) (m 4)) 5) (at (p 0) (p 0)) 1).mv ≡ at (m 4) (p 0)
unfolding tried round_of descend start_at diamond
up_first = refl

-- within a round, a neighbour of the best so far: right of the one above
pub right_of_the_best : (diamond (priced (at (m 4) (p 0)) 5 (at (m 4) (p 4)) 3) (at (p 0) (p 0)) 1).mv ≡ at (m 4) (p 4)
unfolding tried round_of descend start_at diamond
right_of_the_best = refl

-- a refinement goes row by row: the neighbour above comes before the one to the left
pub above-first : (refine (priced (at (m 2) (p 0)) 5 (at (p 0) (m 2)) 5) 2 (at (p 0) (p 0))).mv ≡ at (m 2) (p 0)
unfolding better_of best_of raster_of refine
above-first = refl

-- and all its neighbours are those of the centre: one two rows up is not seen
pub centre_only : refine (priced (at (m 2) (m 2)) 5 (at (m 4) (m 2)) 3) 2 (at (p 0) (p 0)) ≡ record { mv = at (m 2) (m 2); sad = 5 }
unfolding better_of best_of raster_of refine
centre_only = refl

-- 1025 is outside the range and no multiple of 4: refused with 11
pub eleven_first : first_of {A = ℕ} (grid_lines 4 (luma_plane (0 ∷ []) 1 1 1) 0 0 (at (p 1025) (p 0))) 0 ≡ refused 11 []
eleven_first = refl
