-- The starred lines of document 01: rows of one table, each what a definition gives and what the paper says; and the values of document
-- 02's requests, rows of a second table. proofs/Claims.antt claims that in each row of either the two are the same. Assumes nothing.
use Rattle.std.specs.Prelude.{Bool, false, cond, ◌&&◌, ◌||◌, List, [], ◌∷◌, ℕ, zero, suc, ◌-◌, get_or, ℤ, pos, ◌+ℤ◌, ◌-ℤ◌}
use Rattle.laws.specs.Signed.{above, minus, floor_div, eq_z}
use Rattle.prediction.specs.Samples.{distance}
use Rattle.prediction.specs.Vector.{doubled, whole_of, fraction_of}
use Rattle.prediction.specs.Filter.{products, filtered, sixtap}
use Rattle.prediction.specs.Plane.{Samples}
use Rattle.prediction.specs.Prediction.{horizontal_at, vertical_at}
use Rattle.weights.specs.Weights.{weight_of}
use Rattle.weights.specs.Blend.{total_weight, weighted_sum, denoised, distance_bound}
use Rattle.window.specs.Layout.{side_of}
use Rattle.search.specs.Search.{on_grid}
use Rattle.denoiser.specs.Grid.{grid_block, block_in}
use Rattle.denoiser.specs.Search.{halved}
use Rattle.denoiser.specs.Chroma.{half_down, half_row, half_sample, plane_sad, plane_passes, three_accepted}
use Rattle.denoiser.specs.Window.{Picture, Other, Scene, Window, total_at, sum_at, denoised_at, accepted_blocks}
use Rattle.denoiser.specs.Window.{sad_accepted, arnr_rule}

-- 1 where the test holds, else 0
unfoldable pub flag : Bool → ℤ
flag t = cond t (pos 1) (pos 0)

pub record Row : Type 0 where
  pub given : ℤ
  pub paper : ℤ

unfoldable pub row : ℤ → ℤ → Row
row a b = record { given = a; paper = b }

-- a filtered sample of six samples
unfoldable pub sample_of : ℕ → List ℕ → ℤ
sample_of selector support = pos (filtered (sixtap selector) (λ k. get_or support k 0))

-- the centre sample 100 and one other frame's displaced sample 104, at strength 1
unfoldable pub share_on : ℕ → ℕ
share_on displaced = weight_of 1 (distance displaced 100)

unfoldable pub table : List Row
table =
    -- w at strength 1: e=0 gives 16, 4 gives 8, 15 gives 1, 16 gives 0
    row (pos (weight_of 1 0)) (pos 16) ∷ row (pos (weight_of 1 4)) (pos 8) ∷ row (pos (weight_of 1 15)) (pos 1) ∷ row (pos (weight_of 1 16)) (pos 0) ∷
    -- w at strength 6: e=4 gives 15, 87 gives 1, 88 gives 0
    row (pos (weight_of 6 4)) (pos 15) ∷ row (pos (weight_of 6 87)) (pos 1) ∷ row (pos (weight_of 6 88)) (pos 0) ∷
    -- chroma halves: -15 to -7, -1 to 0, 15 to 7
    row (halved (minus 15)) (minus 7) ∷ row (halved (minus 1)) (pos 0) ∷ row (halved (pos 15)) (pos 7) ∷
    -- diamond starts: 1023 to 1020, -1023 to -1020, -5 to -4, 32767 to 1020
    row (on_grid (pos 1023)) (pos 1020) ∷ row (on_grid (minus 1023)) (minus 1020) ∷ row (on_grid (minus 5)) (minus 4) ∷ row (on_grid (pos 32767)) (pos 1020) ∷
    -- component -1: doubled -2, whole -1, fraction 6
    row (doubled (minus 1)) (minus 2) ∷ row (whole_of (doubled (minus 1))) (minus 1) ∷ row (pos (fraction_of (doubled (minus 1)))) (pos 6) ∷
    -- component 1023: whole 255, fraction 6
    row (whole_of (doubled (pos 1023))) (pos 255) ∷ row (pos (fraction_of (doubled (pos 1023)))) (pos 6) ∷
    -- selector 4, support 0 0 255 255 0 0: 255; support 0 255 0 0 255 0: 0; selector 2, support 10 20 30 40 50 60: 32
    row (sample_of 4 (0 ∷ 0 ∷ 255 ∷ 255 ∷ 0 ∷ 0 ∷ [])) (pos 255) ∷
    row (sample_of 4 (0 ∷ 255 ∷ 0 ∷ 0 ∷ 255 ∷ 0 ∷ [])) (pos 0) ∷
    row (sample_of 2 (10 ∷ 20 ∷ 30 ∷ 40 ∷ 50 ∷ 60 ∷ [])) (pos 32) ∷
    -- centre 100, one other 104, strength 1: sum 2432, total 24, sample 101
    row (pos (weighted_sum 100 share_on (λ d. d) (104 ∷ []))) (pos 2432) ∷
    row (pos (total_weight share_on (104 ∷ []))) (pos 24) ∷
    row (pos (denoised 2432 24)) (pos 101) ∷
    -- 16 by 16 block: SAD 3327 accepted, 3328 excluded; 1 by 1: 12 and 13
    row (flag (sad_accepted (grid_block 16 16 0 0) 3327)) (pos 1) ∷ row (flag (sad_accepted (grid_block 16 16 0 0) 3328)) (pos 0) ∷
    row (flag (sad_accepted (grid_block 1 1 0 0) 12)) (pos 1) ∷ row (flag (sad_accepted (grid_block 1 1 0 0) 13)) (pos 0) ∷
    -- width 17: the second block covers chroma column 8 only, and cw is 9
    row (pos (block_in 1 (grid_block 17 16 0 1)).x) (pos 8) ∷ row (pos (block_in 1 (grid_block 17 16 0 1)).columns) (pos 1) ∷ row (pos (side_of 1 17)) (pos 9) ∷
    -- the distance bound for n=1: strength 1 gives 1, strength 6 gives 8
    row (pos (distance_bound (weight_of 1) 1)) (pos 1) ∷ row (pos (distance_bound (weight_of 6) 1)) (pos 8) ∷
    []

-- a picture of 1 by 1 whose centre is 100 in every plane, at strength 1, and one other frame of 104 with a cap
unfoldable pub flat : Scene
flat = record { width = 1; height = 1; strength = 1; centre = λ k x y. 100 }

unfoldable pub capped : ℕ → Window Other
capped cap = record { scene = flat; others = record { picture = λ k x y. 104; cap = cap } ∷ [] }

-- its total weight, sum and denoised sample in Y, and its accepted blocks
unfoldable pub total : ℕ → ℤ
total cap = pos (total_at (arnr_rule flat) (capped cap) 0 0 0)

unfoldable pub sum : ℕ → ℤ
sum cap = pos (sum_at (arnr_rule flat) (capped cap) 0 0 0)

unfoldable pub sample : ℕ → ℤ
sample cap = pos (denoised_at (arnr_rule flat) (capped cap) 0 0 0)

unfoldable pub blocks : ℕ → ℤ
blocks cap = pos (accepted_blocks (arnr_rule flat) (capped cap))

-- samples that are 255 at (0, 0) and (1, 0) and 0 everywhere else, and their half sample at (0, 0)
unfoldable pub spot : Samples
spot x y = cond (eq_z y (pos 0) && (eq_z x (pos 0) || eq_z x (pos 1))) 255 0

unfoldable pub half_spot : ℤ → ℤ → ℤ
half_spot dx dy = pos (half_sample (record { dx = dx; dy = dy }) spot (pos 0) (pos 0))

-- at (1, 1), were the pass down the first, and were the first pass not clamped at 255
unfoldable pub down_first : ℤ
down_first = pos (horizontal_at sixtap 4 (vertical_at sixtap 4 spot) (pos 0) (pos 0))

unfoldable pub unclamped : ℤ
unclamped =
    pos (filtered (sixtap 4) (λ j. above (floor_div (products (sixtap 4) (λ i. spot (pos i -ℤ pos 2) (pos j -ℤ pos 2)) 6 +ℤ pos 64) 128)))

-- a picture of w by h that is 100 in every sample; a frame that is 13 above it in U, but at (0, 0) less by `short`, and as the centre in Y
-- and V; and of its first block the SAD of U, whether U passes, and whether the block is accepted on three planes
unfoldable pub plain : ℕ → ℕ → Scene
plain w h = record { width = w; height = h; strength = 6; centre = λ k x y. 100 }

unfoldable pub tinted : ℕ → Picture
tinted short zero x y = 100
tinted short (suc zero) x y = 113 - cond (eq_z x (pos 0) && eq_z y (pos 0)) short 0
tinted short (suc (suc k)) x y = 100

unfoldable pub sad_of_u : ℕ → ℕ → ℕ → ℤ
sad_of_u w h short = pos (plane_sad false (plain w h) (tinted short) 0 0 1)

unfoldable pub passes_in_u : ℕ → ℕ → ℕ → ℤ
passes_in_u w h short = flag (plane_passes false (plain w h) (tinted short) 0 0 1)

unfoldable pub accepted_on_three : ℕ → ℕ → ℕ → ℤ
accepted_on_three w h short = flag (three_accepted false (plain w h) (tinted short) 0 0)

unfoldable pub requested : List Row
requested =
    -- request 7, centre 100, one other 104, strength 1: caps 16 and 8 give total 24, sum 2432, sample 101
    row (total 16) (pos 24) ∷ row (sum 16) (pos 2432) ∷ row (sample 16) (pos 101) ∷
    row (total 8) (pos 24) ∷ row (sum 8) (pos 2432) ∷ row (sample 8) (pos 101) ∷
    -- cap 7 gives 23, 2328, 101; cap 3 gives 19, 1912, 101; cap 0 gives 16, 1600, 100
    row (total 7) (pos 23) ∷ row (sum 7) (pos 2328) ∷ row (sample 7) (pos 101) ∷
    row (total 3) (pos 19) ∷ row (sum 3) (pos 1912) ∷ row (sample 3) (pos 101) ∷
    row (total 0) (pos 16) ∷ row (sum 0) (pos 1600) ∷ row (sample 0) (pos 100) ∷
    -- and the block is accepted and counted at every cap
    row (blocks 16) (pos 1) ∷ row (blocks 0) (pos 1) ∷
    -- request 6, a component's whole offset and row: -15 gives -8 and 4, -2 gives -1 and 0, -1 gives -1 and 4, 0 gives 0 and 0
    row (half_down (minus 15)) (minus 8) ∷ row (pos (half_row (minus 15))) (pos 4) ∷
    row (half_down (minus 2)) (minus 1) ∷ row (pos (half_row (minus 2))) (pos 0) ∷
    row (half_down (minus 1)) (minus 1) ∷ row (pos (half_row (minus 1))) (pos 4) ∷
    row (half_down (pos 0)) (pos 0) ∷ row (pos (half_row (pos 0))) (pos 0) ∷
    -- 1 gives 0 and 4, 2 gives 1 and 0, 15 gives 7 and 4
    row (half_down (pos 1)) (pos 0) ∷ row (pos (half_row (pos 1))) (pos 4) ∷
    row (half_down (pos 2)) (pos 1) ∷ row (pos (half_row (pos 2))) (pos 0) ∷
    row (half_down (pos 15)) (pos 7) ∷ row (pos (half_row (pos 15))) (pos 4) ∷
    -- the row of a half, support 0 0 255 255 0 0: 255; support 0 255 0 0 255 0: 0
    row (sample_of (half_row (pos 1)) (0 ∷ 0 ∷ 255 ∷ 255 ∷ 0 ∷ 0 ∷ [])) (pos 255) ∷
    row (sample_of (half_row (pos 1)) (0 ∷ 255 ∷ 0 ∷ 0 ∷ 255 ∷ 0 ∷ [])) (pos 0) ∷
    -- of 255 at (0, 0) and (1, 0) and 0 elsewhere the half sample at (0, 0): at (1, 0) 255, at (0, 1) 153, at (1, 1) 153
    row (half_spot (pos 1) (pos 0)) (pos 255) ∷ row (half_spot (pos 0) (pos 1)) (pos 153) ∷ row (half_spot (pos 1) (pos 1)) (pos 153) ∷
    -- where the pass down first would give 184, and no clamp between the passes 185
    row down_first (pos 184) ∷ row unclamped (pos 185) ∷
    -- request 9, chroma of 8 by 8, of a block of 16 by 16: 831 passes, 832 does not
    row (sad_of_u 16 16 1) (pos 831) ∷ row (passes_in_u 16 16 1) (pos 1) ∷ row (accepted_on_three 16 16 1) (pos 1) ∷
    row (sad_of_u 16 16 0) (pos 832) ∷ row (passes_in_u 16 16 0) (pos 0) ∷ row (accepted_on_three 16 16 0) (pos 0) ∷
    -- of 1 by 1: 12 and 13
    row (sad_of_u 1 1 1) (pos 12) ∷ row (passes_in_u 1 1 1) (pos 1) ∷ row (sad_of_u 1 1 0) (pos 13) ∷ row (passes_in_u 1 1 0) (pos 0) ∷
    -- of a block of 1 by 16, 8 rows of 1: 103 and 104
    row (sad_of_u 1 16 1) (pos 103) ∷ row (passes_in_u 1 16 1) (pos 1) ∷ row (sad_of_u 1 16 0) (pos 104) ∷ row (passes_in_u 1 16 0) (pos 0) ∷
    []
