-- The SAD of a macroblock up to a ceiling, and searches that are cut short by the best so far. Assumes nothing.
use Rattle.std.proofs.Common.{◌≡◌, refl, sym, ap, ◌∙◌, cond, List, ℕ, zero, suc, ◌≤◌, ◌<◌, min, arith, le-ltb, ℤ, pos, get_or}
use Rattle.std.proofs.Math.Decide.{dec_lt}
use Rattle.laws.specs.Signed.{minus}
use Rattle.laws.specs.Sums.{sum_below}
use Rattle.laws.specs.Ceiling.{sum_up_to, rows_measured}
use Rattle.laws.specs.Best.{best_of}
use Rattle.laws.proofs.Ceiling.{whole, all_rows}
use Rattle.laws.proofs.Best.{best_up_to, cut-short-same as best-same}
use Rattle.prediction.specs.declared.motion_vector.Mv.{Mv}
use Rattle.prediction.specs.declared.ceiling.Ceiled.{Ceiled}
use Rattle.prediction.specs.Ceiled.{CeiledIs}
use Rattle.prediction.specs.Filter.{FilterRows}
use Rattle.prediction.proofs.Ceilings.{lesser}
use Rattle.search.specs.declared.Site.{Site}
use Rattle.search.specs.declared.DiamondResult.{DiamondResult}
use Rattle.search.specs.declared.SearchResult.{SearchResult}
use Rattle.search.specs.Sad.{sad16, row_sad, cost_in}
use Rattle.search.specs.Search.{gridded, same_mv, stepped, measured, tried, counted, round_of, descend, start_at, diamond, raster_of, refine}
use Rattle.search.specs.Internal.{plane_of, cost_by, cost_row}
use Rattle.search.proofs.Rows.{sad-rows}
use Rattle.search.proofs.SadLaws.{sad-most, cost_most_in}

-- at 65281 or more the value is the macroblock's SAD, and all 16 rows are measured
pub no_ceiling : (src block : List ℕ) (ceiling : ℕ) → ((i : ℕ) → get_or src i 0 < 256) → ((i : ℕ) → get_or block i 0 < 256) → 65281 ≤ ceiling
    → (sum_up_to (row_sad src block) 16 ceiling ≡ sad16 src block) × (rows_measured (row_sad src block) 16 ceiling ≡ 16)
no_ceiling src block ceiling s b h =
    let l : sum_below (row_sad src block) 16 < ceiling = omega (arith, sad-most src block s b, sad-rows src block) in
    (whole (row_sad src block) 16 ceiling l ∙ sym (sad-rows src block), all_rows (row_sad src block) 16 ceiling l)

-- what a search reads of a vector: the lesser of its cost and the ceiling
pub cost_read : (set : FilterRows) (bytes : List ℕ) (s : Site) (src : List ℕ) (v : Mv) (ceiling : ℕ) (r : Ceiled) → CeiledIs (cost_row set bytes s src v) 16 ceiling r
    → r.sad ≡ min (cost_by set bytes s src v) ceiling
unfolding cost_in
cost_read set bytes s src v ceiling r i =
    lesser (cost_row set bytes s src v) 16 ceiling r i ∙ ap (λ (n : ℕ). min n ceiling) (sym (sad-rows src _))

-- at 65281 or more that is the cost
pub cost_whole : (set : FilterRows) (bytes : List ℕ) (s : Site) (src : List ℕ) (v : Mv) (ceiling : ℕ) (r : Ceiled) → ((i : ℕ) → get_or src i 0 < 256) → 65281 ≤ ceiling
    → CeiledIs (cost_row set bytes s src v) 16 ceiling r → r.sad ≡ cost_by set bytes s src v
cost_whole set bytes s src v ceiling r b h i =
    omega (arith, cost_read set bytes s src v ceiling r i, cost_most_in set (plane_of bytes s) s.column s.row src v b)

-- the diamond cut short: a neighbour is read up to the best SAD, the start up to 65281
abbrev pub tried_up_to : (Mv → ℕ) → ℤ → ℤ → DiamondResult → DiamondResult
tried_up_to cost dr dc best = tried (λ v. min (cost v) best.sad) dr dc best

abbrev pub round_up_to : (Mv → ℕ) → DiamondResult → DiamondResult
round_up_to cost best =
    counted (tried_up_to cost (pos 0) (pos 4) (tried_up_to cost (pos 0) (minus 4) (tried_up_to cost (pos 4) (pos 0) (tried_up_to cost (minus 4) (pos 0) best))))

unfoldable pub descend_up_to : (Mv → ℕ) → ℕ → DiamondResult → DiamondResult
descend_up_to cost zero best = best
descend_up_to cost (suc limit) best =
    cond (same_mv (round_up_to cost best).mv best.mv) (round_up_to cost best) (descend_up_to cost limit (round_up_to cost best))

abbrev pub diamond_up_to : (Mv → ℕ) → Mv → ℕ → DiamondResult
diamond_up_to cost centre limit = descend_up_to cost limit (start_at (λ v. min (cost v) 65281) centre)

-- a refinement cut short: each neighbour is read up to the cost of the best so far, the SAD that is given up to 65281
abbrev pub refine_up_to : (Mv → ℕ) → ℕ → Mv → SearchResult
refine_up_to cost step centre =
    record { mv = best_up_to cost centre (raster_of centre step) 8; sad = min (cost (best_up_to cost centre (raster_of centre step) 8)) 65281 }

module _ (cost : Mv → ℕ) where
  tried_same : (dr dc : ℤ) (b : DiamondResult) → tried_up_to cost dr dc b ≡ tried cost dr dc b
  unfolding tried
  tried_same dr dc b = ap (cond (same_mv (stepped dr dc b.mv) b.mv) b) (same (stepped dr dc b.mv))
    where
      same : (v : Mv) → measured (λ u. min (cost u) b.sad) v b ≡ measured cost v b
      same v = by (dec_lt (cost v) b.sad)
        where
          by : Dec (cost v < b.sad) → measured (λ u. min (cost u) b.sad) v b ≡ measured cost v b
          by (yes l) =
              let e : min (cost v) b.sad ≡ cost v = omega arith in
              rw e
          by (no g) = rw (le-ltb (min (cost v) b.sad) b.sad (omega arith), le-ltb (cost v) b.sad (omega arith))

  round_same : (b : DiamondResult) → round_up_to cost b ≡ round_of cost b
  unfolding round_of
  round_same b = rw (tried_same (minus 4) (pos 0) b, tried_same (pos 4) (pos 0) _, tried_same (pos 0) (minus 4) _, tried_same (pos 0) (pos 4) _)

  descend-same : (limit : ℕ) (b : DiamondResult) → descend_up_to cost limit b ≡ descend cost limit b
  unfolding descend_up_to descend
  descend-same zero b = refl
  descend-same (suc limit) b =
      ap (λ (r : DiamondResult). cond (same_mv r.mv b.mv) r (descend_up_to cost limit r)) (round_same b)
      ∙ ap (cond (same_mv (round_of cost b).mv b.mv) (round_of cost b)) (descend-same limit (round_of cost b))

  -- the start is measured at 65281, which no cost reaches
  pub diamond-same : (centre : Mv) (limit : ℕ) → ((v : Mv) → cost v ≤ 65280) → diamond_up_to cost centre limit ≡ diamond cost centre limit
  unfolding start_at diamond
  diamond-same centre limit h =
      let e : min (cost (gridded centre)) 65281 ≡ cost (gridded centre) = omega (arith, h (gridded centre)) in
      rw e (descend-same limit _)

  pub refine-same : (step : ℕ) (centre : Mv) → ((v : Mv) → cost v ≤ 65280) → refine_up_to cost step centre ≡ refine cost step centre
  unfolding refine
  refine-same step centre h =
      let b = best-same cost centre (raster_of centre step) 8 in
      let e : min (cost (best_of cost centre (raster_of centre step) 8)) 65281 ≡ cost (best_of cost centre (raster_of centre step) 8)
      = omega (arith, h (best_of cost centre (raster_of centre step) 8)) in
      rw (b, e)

  -- both at once: no search's answer depends on what it leaves unmeasured
  pub cut-short-same : ((v : Mv) → cost v ≤ 65280) → (centre : Mv) (limit step : ℕ)
      → (diamond_up_to cost centre limit ≡ diamond cost centre limit) × (refine_up_to cost step centre ≡ refine cost step centre)
  cut-short-same h centre limit step = (diamond-same centre limit h, refine-same step centre h)
