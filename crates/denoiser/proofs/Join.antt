-- What is made of a frame depends on the centre only by its samples in the planes, and on nothing but the frame, the centre, the size and the strength.
-- This joins what the code reads, the packed copy of the centre and the lent curve, to the definitions. Assumes nothing.
use Rattle.std.proofs.Common.{◌≡◌, sym, ap, ◌∙◌, Bool, List, ℕ, zero, suc, ◌+◌, ◌*◌, ◌/◌, ◌^◌, ◌≤◌, ◌<◌, min, mul-le-mul, arith, pos, get_or}
use Rattle.std.proofs.Math.Decide.{dec_lt}
use Rattle.std.proofs.Math.ListN.{get_or-eq_default}
use Rattle.std.proofs.Math.Nat.{pow-le-pow_right}
use Rattle.std.proofs.Math.Path.{fun_ext}
use Rattle.laws.specs.Sums.{sum_below}
use Rattle.laws.proofs.Sums.{sum_same}
use Rattle.laws.specs.Tabulate.{tabulate}
use Rattle.laws.proofs.Tabulate.{length-tabulate, get_d_tabulate}
use Rattle.prediction.specs.Samples.{distance}
use Rattle.prediction.specs.Plane.{Samples}
use Rattle.weights.specs.Weights.{scale, weight_read, capped_weight}
use Rattle.weights.proofs.Weights.{zero-weight, read_none, read_some, read_most}
use Rattle.window.specs.Layout.{side_of}
use Rattle.denoiser.specs.declared.Block.{Block}
use Rattle.denoiser.specs.declared.Displacement.{Displacement}
use Rattle.denoiser.specs.declared.Choice.{Choice}
use Rattle.denoiser.specs.Grid.{grid_block, grid_side, block_in, unit_of}
use Rattle.denoiser.specs.Search.{sad_of, displaced_by, block_search}
use Rattle.denoiser.specs.Window.{Picture, Other, Scene, gate, centre_at, share_of, accepted_in, cost_of, displacement_of, sad_accepted, block_accepted}
use Rattle.denoiser.specs.Chroma.{sample_in, chosen_sample, plane_sad, plane_passes, three_accepted, chosen_accepts, rule_of}
use Rattle.denoiser.specs.Internal.{curve_rule, curve_share, curve_term, capped_curve, other_share, other_term, other_blocks}
use Rattle.denoiser.proofs.Cover.{grid_lies, within-grid}
use Rattle.denoiser.proofs.Planes.{block-fits}

-- the SAD looks at the rectangle only
sad-same : (a b m : Samples) (r : Block) → ((x y : ℕ) → x < r.x + r.columns → y < r.y + r.rows → a (pos x) (pos y) ≡ b (pos x) (pos y)) → sad_of a m r ≡ sad_of b m r
unfolding sad_of
sad-same a b m r h =
    sum_same _ _ r.rows (λ j hj. sum_same _ _ r.columns (λ i hi.
    ap (λ (t : ℕ). distance t (m (pos (r.x + i)) (pos (r.y + j)))) (h (r.x + i) (r.y + j) (omega arith) (omega arith))))

-- the block that covers a sample lies in the grid
in_grid : (k n x : ℕ) → x < side_of k n → 16 * (x / unit_of k) < n
in_grid k n x h = let g = within-grid k n x h in omega arith

-- two scenes of one size whose centres agree at every sample of every plane
pub record Agree (a b : Scene) : Type 0 where
  pub width : a.width ≡ b.width
  pub height : a.height ≡ b.height
  pub centre : (k x y : ℕ) → k < 3 → x < side_of k a.width → y < side_of k a.height → centre_at a k x y ≡ centre_at b k x y

module _ (o : Choice) (a b : Scene) (s : Agree a b) (f : Picture) where
  grid-same : (i j : ℕ) → grid_block a.width a.height i j ≡ grid_block b.width b.height i j
  grid-same i j = ap (λ (t : ℕ). grid_block t a.height i j) s.width ∙ ap (λ (t : ℕ). grid_block b.width t i j) s.height

  cost_same : (i j : ℕ) → 16 * i < a.height → 16 * j < a.width → cost_of a f i j ≡ cost_of b f i j
  unfolding cost_of
  cost_same i j hi hj =
      let l = grid_lies a.width a.height i j hi hj in
      fun_ext (λ d.
      sad-same (a.centre 0) (b.centre 0) (displaced_by d (f 0)) (grid_block a.width a.height i j)
      (λ x y hx hy. s.centre 0 x y (omega arith) (omega (arith, l.wide)) (omega (arith, l.high)))
      ∙ ap (λ (r : Block). sad_of (b.centre 0) (displaced_by d (f 0)) r) (grid-same i j))

  displacement-same : (i j : ℕ) → 16 * i < a.height → 16 * j < a.width → displacement_of a f i j ≡ displacement_of b f i j
  unfolding displacement_of
  displacement-same i j hi hj = ap block_search (cost_same i j hi hj)

  luma_accepted-same : (i j : ℕ) → 16 * i < a.height → 16 * j < a.width → block_accepted a f i j ≡ block_accepted b f i j
  unfolding block_accepted
  luma_accepted-same i j hi hj =
      ap (λ (c : Displacement → ℕ). sad_accepted (grid_block a.width a.height i j) (c (displacement_of a f i j))) (cost_same i j hi hj)
      ∙ ap (λ (d : Displacement). sad_accepted (grid_block a.width a.height i j) (cost_of b f i j d)) (displacement-same i j hi hj)
      ∙ ap (λ (r : Block). sad_accepted r (cost_of b f i j (displacement_of b f i j))) (grid-same i j)

  -- a plane's SAD looks at the centre only inside the plane, which no block overhangs
  plane_sad-same : (half : Bool) (i j k : ℕ) → k < 3 → 16 * i < a.height → 16 * j < a.width → plane_sad half a f i j k ≡ plane_sad half b f i j k
  unfolding plane_sad
  plane_sad-same half i j k hk hi hj =
      let l = block-fits k (grid_block a.width a.height i j) a.width a.height (grid_lies a.width a.height i j hi hj) in
      sad-same (a.centre k) (b.centre k) (sample_in half k (displacement_of a f i j) (f k)) (block_in k (grid_block a.width a.height i j))
      (λ x y hx hy. s.centre k x y hk (omega (arith, l.wide)) (omega (arith, l.high)))
      ∙ ap (λ (d : Displacement). sad_of (b.centre k) (sample_in half k d (f k)) (block_in k (grid_block a.width a.height i j))) (displacement-same i j hi hj)
      ∙ ap (λ (r : Block). sad_of (b.centre k) (sample_in half k (displacement_of b f i j) (f k)) (block_in k r)) (grid-same i j)

  plane_passes-same : (half : Bool) (i j k : ℕ) → k < 3 → 16 * i < a.height → 16 * j < a.width → plane_passes half a f i j k ≡ plane_passes half b f i j k
  unfolding plane_passes
  plane_passes-same half i j k hk hi hj =
      ap (sad_accepted (block_in k (grid_block a.width a.height i j))) (plane_sad-same half i j k hk hi hj)
      ∙ ap (λ (r : Block). sad_accepted (block_in k r) (plane_sad half b f i j k)) (grid-same i j)

  pub three_accepted-same : (half : Bool) (i j : ℕ) → 16 * i < a.height → 16 * j < a.width → three_accepted half a f i j ≡ three_accepted half b f i j
  unfolding three_accepted
  three_accepted-same half i j hi hj =
      rw (
        plane_passes-same half i j 0 (omega arith) hi hj,
        plane_passes-same half i j 1 (omega arith) hi hj,
        plane_passes-same half i j 2 (omega arith) hi hj,
      )

  pub accepted-same : (i j : ℕ) → 16 * i < a.height → 16 * j < a.width → chosen_accepts o a f i j ≡ chosen_accepts o b f i j
  unfolding chosen_accepts
  accepted-same i j hi hj = rw (three_accepted-same o.half_sample i j hi hj, luma_accepted-same i j hi hj)

  module _ (k x y : ℕ) (hk : k < 3) (hx : x < side_of k a.width) (hy : y < side_of k a.height) where
    pub displaced-same : chosen_sample o a f k x y ≡ chosen_sample o b f k x y
    unfolding chosen_sample
    displaced-same =
        ap (λ (d : Displacement). sample_in o.half_sample k d (f k) (pos x) (pos y))
        (displacement-same (y / unit_of k) (x / unit_of k) (in_grid k a.height y hy) (in_grid k a.width x hx))

    pub by-weight : (u v : ℕ → ℕ) → ((e : ℕ) → u e ≡ v e)
        → gate (chosen_accepts o a f (y / unit_of k) (x / unit_of k)) (u (distance (chosen_sample o a f k x y) (centre_at a k x y)))
        ≡ gate (chosen_accepts o b f (y / unit_of k) (x / unit_of k)) (v (distance (chosen_sample o b f k x y) (centre_at b k x y)))
    by-weight u v e =
        ap (λ (t : Bool). gate t (u (distance (chosen_sample o a f k x y) (centre_at a k x y)))) (accepted-same (y / unit_of k) (x / unit_of k) (in_grid k a.height y hy) (in_grid k a.width x hx))
        ∙ ap (gate (chosen_accepts o b f (y / unit_of k) (x / unit_of k)))
        (e (distance (chosen_sample o a f k x y) (centre_at a k x y))
        ∙ ap (λ (t : ℕ). v (distance t (centre_at a k x y))) displaced-same
        ∙ ap (λ (t : ℕ). v (distance (chosen_sample o b f k x y) t)) (s.centre k x y hk hx hy))

  -- as many blocks are accepted
  pub blocks-same : sum_below (λ i. sum_below (λ j. gate (chosen_accepts o a f i j) 1) (grid_side a.width)) (grid_side a.height)
      ≡ sum_below (λ i. sum_below (λ j. gate (chosen_accepts o b f i j) 1) (grid_side b.width)) (grid_side b.height)
  blocks-same =
      sum_same _ _ (grid_side a.height) (λ i hi. sum_same _ _ (grid_side a.width) (λ j hj.
      ap (λ (t : Bool). gate t 1) (accepted-same i j (omega arith) (omega arith))))
      ∙ ap (λ (n : ℕ). sum_below (λ i. sum_below (λ j. gate (chosen_accepts o b f i j) 1) (grid_side n)) (grid_side a.height)) s.width
      ∙ ap (λ (n : ℕ). sum_below (λ i. sum_below (λ j. gate (chosen_accepts o b f i j) 1) (grid_side b.width)) (grid_side n)) s.height

-- the lent curve is the strength's at every difference: from 256 on every weight is 0
far : (strength e : ℕ) → 256 ≤ e → weight_read strength e ≡ 0
far zero e h = read_none e
far (suc s) e h =
    let few : 2 ^ min (suc s) 6 ≤ 64 = pow-le-pow_right {n = 2} (omega arith) {j = 6} (omega arith) in
    let square : 65536 ≤ e * e = mul-le-mul h h in
    let small : 15 * scale (min (suc s) 6) < e * e = unfold scale in omega arith in
    read_some (suc s) e (omega arith) ∙ (zero-weight (min (suc s) 6) e).1 small

pub curve-at : (strength e : ℕ) → get_or (tabulate 256 (weight_read strength)) e 0 ≡ weight_read strength e
curve-at strength e = by (dec_lt e 256)
  where
    by : Dec (e < 256) → get_or (tabulate 256 (weight_read strength)) e 0 ≡ weight_read strength e
    by (yes l) = get_d_tabulate 256 (weight_read strength) e 0 l
    by (no g) =
        get_or-eq_default (tabulate 256 (weight_read strength)) 0 (let n = length-tabulate 256 (weight_read strength) in omega arith)
        ∙ sym (far strength e (omega arith))

pub curve_light : (strength e : ℕ) → get_or (tabulate 256 (weight_read strength)) e 0 ≤ 16
curve_light strength e = rw (curve-at strength e) (read_most strength e)

-- cut at a cap, it is the capped weight
pub capped_at : (curve : List ℕ) (strength : ℕ) → ((e : ℕ) → get_or curve e 0 ≡ weight_read strength e) → (cap e : ℕ)
    → get_or (capped_curve curve cap) e 0 ≡ capped_weight cap strength e
unfolding capped_curve capped_weight
capped_at curve strength is cap e = by (dec_lt e 256)
  where
    by : Dec (e < 256) → get_or (tabulate 256 (λ d. min cap (get_or curve d 0))) e 0 ≡ min cap (weight_read strength e)
    by (yes l) = get_d_tabulate 256 (λ d. min cap (get_or curve d 0)) e 0 l ∙ ap (min cap) (is e)
    by (no g) =
        let n = length-tabulate 256 (λ d. min cap (get_or curve d 0)) in
        let z = far strength e (omega arith) in
        get_or-eq_default (tabulate 256 (λ d. min cap (get_or curve d 0))) 0 (omega arith) ∙ omega arith

-- another frame, with its cap
module _ (o : Choice) (a b : Scene) (s : Agree a b) (f : Other) where
  module _ (k x y : ℕ) (hk : k < 3) (hx : x < side_of k a.width) (hy : y < side_of k a.height) where
    -- a share depends on the frame, the centre and the strength only
    pub share_alone : a.strength ≡ b.strength → share_of (rule_of o a) a f k x y ≡ share_of (rule_of o b) b f k x y
    unfolding share_of rule_of
    share_alone e =
        by-weight o a b s f.picture k x y hk hx hy (capped_weight f.cap a.strength) (capped_weight f.cap b.strength)
        (λ d. ap (λ (t : ℕ). capped_weight f.cap t d) e)

    pub share_joined : (curve : List ℕ) → ((e : ℕ) → get_or curve e 0 ≡ weight_read b.strength e) → other_share o curve a f k x y ≡ share_of (rule_of o b) b f k x y
    unfolding other_share curve_share share_of curve_rule rule_of
    share_joined curve e =
        by-weight o a b s f.picture k x y hk hx hy (λ d. get_or (capped_curve curve f.cap) d 0) (capped_weight f.cap b.strength) (capped_at curve b.strength e f.cap)

    pub term_joined : (curve : List ℕ) → ((e : ℕ) → get_or curve e 0 ≡ weight_read b.strength e)
        → other_term o curve a f k x y ≡ share_of (rule_of o b) b f k x y * (rule_of o b).sample f k x y
    unfolding other_term other_share curve_term rule_of
    term_joined curve e =
        ap (λ (t : ℕ). t * chosen_sample o a f.picture k x y) (share_joined curve e)
        ∙ ap (λ (t : ℕ). share_of (rule_of o b) b f k x y * t) (displaced-same o a b s f.picture k x y hk hx hy)

  pub count_joined : (curve : List ℕ) → other_blocks o curve a f ≡ accepted_in (rule_of o b) b f
  unfolding other_blocks accepted_in curve_rule rule_of
  count_joined curve = blocks-same o a b s f.picture
