-- The motion searches of document 01, over any cost of a vector. Assumes nothing.
use Rattle.std.specs.Prelude.{Bool, cond, ◌&&◌, ℕ, zero, suc, ◌+◌, ◌/◌, ◌%◌, ltb, ℤ, pos, ◌+ℤ◌, ◌*ℤ◌}
use Rattle.std.specs.Int.Signed.{lt_z, quot_z}
use Rattle.laws.specs.Signed.{minus, eq_z}
use Rattle.laws.specs.Best.{best_of}
use Rattle.laws.specs.Square.{square_place, step_to}
use Rattle.prediction.specs.declared.motion_vector.Mv.{Mv}
use Rattle.search.specs.declared.DiamondResult.{DiamondResult}
use Rattle.search.specs.declared.SearchResult.{SearchResult}

-- a component clamped to -1023..1023
abbrev pub clamped_mv : ℤ → ℤ
clamped_mv z = cond (lt_z z (minus 1023)) (minus 1023) (cond (lt_z (pos 1023) z) (pos 1023) z)

-- a component cut toward zero to a multiple of 4
abbrev pub cut_to4 : ℤ → ℤ
cut_to4 z = quot_z z (pos 4) *ℤ pos 4

-- clamped first, then cut
abbrev pub on_grid : ℤ → ℤ
on_grid z = cut_to4 (clamped_mv z)

abbrev pub gridded : Mv → Mv
gridded v = record { row = on_grid v.row; col = on_grid v.col }

abbrev pub same_mv : Mv → Mv → Bool
same_mv a b = eq_z a.row b.row && eq_z a.col b.col

-- the neighbour of v that is dr down and dc to the right, in quarter pixels, brought onto the grid as a centre is: clamped, then cut
abbrev pub stepped : ℤ → ℤ → Mv → Mv
stepped dr dc v = gridded (record { row = v.row +ℤ dr; col = v.col +ℤ dc })

-- a vector is measured: one more SAD is computed, and only a smaller one moves the best
abbrev pub measured : (Mv → ℕ) → Mv → DiamondResult → DiamondResult
measured cost v best =
    cond (ltb (cost v) best.sad)
    (record { mv = v; sad = cost v; sads = best.sads + 1; rounds = best.rounds })
    (record { mv = best.mv; sad = best.sad; sads = best.sads + 1; rounds = best.rounds })

-- a neighbour of the best so far; one that is equal to the best after clamping is skipped
unfoldable pub tried : (Mv → ℕ) → ℤ → ℤ → DiamondResult → DiamondResult
tried cost dr dc best = cond (same_mv (stepped dr dc best.mv) best.mv) best (measured cost (stepped dr dc best.mv) best)

abbrev pub up : (Mv → ℕ) → DiamondResult → DiamondResult
up cost = tried cost (minus 4) (pos 0)

abbrev pub down : (Mv → ℕ) → DiamondResult → DiamondResult
down cost = tried cost (pos 4) (pos 0)

abbrev pub left : (Mv → ℕ) → DiamondResult → DiamondResult
left cost = tried cost (pos 0) (minus 4)

abbrev pub right : (Mv → ℕ) → DiamondResult → DiamondResult
right cost = tried cost (pos 0) (pos 4)

-- one more round made
abbrev pub counted : DiamondResult → DiamondResult
counted best = record { mv = best.mv; sad = best.sad; sads = best.sads; rounds = best.rounds + 1 }

-- a round: the neighbours come as up, down, left, right, each of the best so far
unfoldable pub round_of : (Mv → ℕ) → DiamondResult → DiamondResult
round_of cost best = counted (right cost (left cost (down cost (up cost best))))

-- rounds end after one without a move, or after `limit` of them
unfoldable pub descend : (Mv → ℕ) → ℕ → DiamondResult → DiamondResult
descend cost zero best = best
descend cost (suc limit) best = cond (same_mv (round_of cost best).mv best.mv) (round_of cost best) (descend cost limit (round_of cost best))

-- the start is the centre on the grid; its SAD is the first that is computed
unfoldable pub start_at : (Mv → ℕ) → Mv → DiamondResult
start_at cost centre = record { mv = gridded centre; sad = cost (gridded centre); sads = 1; rounds = 0 }

-- the diamond: vector, SAD, SADs computed and rounds made
unfoldable pub diamond : (Mv → ℕ) → Mv → ℕ → DiamondResult
diamond cost centre limit = descend cost limit (start_at cost centre)

-- the eight neighbours of a vector in raster order
unfoldable pub raster_of : Mv → ℕ → ℕ → Mv
raster_of v step k = record { row = step_to v.row (square_place k / 3) step; col = step_to v.col (square_place k % 3) step }

-- a vector with its SAD
abbrev pub measured_at : (Mv → ℕ) → Mv → SearchResult
measured_at cost v = record { mv = v; sad = cost v }

-- a refinement: the best of the centre and its eight neighbours; ties keep the earlier vector
unfoldable pub refine : (Mv → ℕ) → ℕ → Mv → SearchResult
refine cost step centre = measured_at cost (best_of cost centre (raster_of centre step) 8)
