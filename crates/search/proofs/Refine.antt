-- The laws of the refinements, over any cost: what is found, and that clamping and skipping never occur. Assumes nothing.
use Rattle.std.proofs.Common.{◌≡◌, refl, sym, ap, ◌∙◌, false, ⊎_elim, ℕ, ◌+◌, ◌*◌, ◌/◌, ◌%◌, ◌≤◌, ◌<◌, mul-le-mul_right, mul-div_cancel, arith, lt-ltb, le-ltb, ℤ, pos, nat_abs, ◌+ℤ◌}
use Rattle.std.proofs.Math.Decide.{dec_lt}
use Rattle.laws.specs.Signed.{above, below}
use Rattle.laws.proofs.Signed.{same, sum, diff, self, one-zero, parts_same}
use Rattle.laws.specs.Best.{best_of}
use Rattle.laws.proofs.Best.{Best, Chosen, best_is}
use Rattle.prediction.specs.declared.motion_vector.Mv.{Mv}
use Rattle.search.specs.Refusals.{out_of_range, off_grid}
use Rattle.search.specs.Search.{clamped_mv, raster_of, refine}
use Rattle.laws.specs.Square.{square_place, step_to}
use Rattle.laws.proofs.Square.{place-most}
use Rattle.search.specs.Internal.{Room, InRange}
use Rattle.search.proofs.Accepted.{Multiple, in_range, multiple, range-line, grid-line}
use Rattle.search.proofs.Grid.{clamp_parts}

-- the result is the first of the least of the centre and then the neighbours in raster order, with its SAD
module _ (cost : Mv → ℕ) (step : ℕ) (centre : Mv) where
  pub refine_best : Best cost centre (raster_of centre step) 8 (refine cost step centre).mv
  unfolding refine
  refine_best = best_is cost centre (raster_of centre step) 8

  pub refine-sad : (refine cost step centre).sad ≡ cost (refine cost step centre).mv
  unfolding refine
  refine-sad = refl

-- a step from a component stays in range, so that clamping changes nothing
module _ (v : ℤ) (step p : ℕ) (small : p ≤ 2) (room : nat_abs v + step ≤ 1023) where
  step_parts : (above (step_to v p step) ≤ above v + step) × (below (step_to v p step) ≤ below v + step)
  step_parts =
      let s = sum v (pos (p * step)) in
      let d = diff (v +ℤ pos (p * step)) (pos step) in
      omega (arith, mul-le-mul_right step small, s.up, s.dn, d.up, d.dn)

  step_near : nat_abs (step_to v p step) ≤ 1023
  step_near = omega (arith, step_parts, (self v).abs, (self (step_to v p step)).abs, one-zero (step_to v p step))

  no_clamp : clamped_mv (step_to v p step) ≡ step_to v p step
  no_clamp =
      let c = clamp_parts (step_to v p step) in
      same _ _ (omega (arith, c.up, c.dn, step_near, (self (step_to v p step)).abs))

-- a vector that can be measured, and that clamping does not change
pub record Clear (v : Mv) : Type 0 where
  pub range : InRange v
  pub row : clamped_mv v.row ≡ v.row
  pub col : clamped_mv v.col ≡ v.col

pub clear : (v : Mv) (step k : ℕ) → k < 8 → Room step v → Clear (raster_of v step k)
unfolding raster_of
clear v step k h r =
    let m = place-most k h in
    let p : square_place k / 3 ≤ 2 = omega arith in
    let q : square_place k % 3 ≤ 2 = omega arith in
    record {
      range = record { row = step_near v.row step _ p r.row; col = step_near v.col step _ q r.col };
      row = no_clamp v.row step _ p r.row;
      col = no_clamp v.col step _ q r.col;
    }

-- in the accepted range there is room for the step
step_small : (step n : ℕ) → 0 < step → step ≤ 2 → n ≤ 1023 → n % (2 * step) ≡ 0 → n + step ≤ 1023
step_small step n a b h e = go (dec_lt step 2)
  where
    go : Dec (step < 2) → n + step ≤ 1023
    go (yes l) = let s : step ≡ 1 = omega arith in let d : n % 2 ≡ 0 = rw s at e in omega arith
    go (no f) = let s : step ≡ 2 = omega arith in let d : n % 4 ≡ 0 = rw s at e in omega arith

pub step_room : (v : Mv) (step : ℕ) → 0 < step → step ≤ 2 → out_of_range v ≡ false → off_grid (2 * step) v ≡ false → Room step v
step_room v step a b range e =
    let r = in_range v range in
    let m = multiple (2 * step) v e in
    record { row = step_small step _ a b r.row m.row; col = step_small step _ a b r.col m.col }

module _ (v : Mv) (range : out_of_range v ≡ false) where
  -- so that clamping never occurs there
  pub half_clear : off_grid 4 v ≡ false → (k : ℕ) → k < 8 → Clear (raster_of v 2 k)
  half_clear e k h = clear v 2 k h (step_room v 2 (omega arith) (omega arith) range e)

  pub quarter_clear : off_grid 2 v ≡ false → (k : ℕ) → k < 8 → Clear (raster_of v 1 k)
  quarter_clear e k h = clear v 1 k h (step_room v 1 (omega arith) (omega arith) range e)

-- the eight neighbours and the centre are nine vectors
step_net : (v : ℤ) (step p : ℕ) → above (step_to v p step) + below v + step ≡ below (step_to v p step) + above v + p * step
step_net v step p =
    let s = sum v (pos (p * step)) in
    let d = diff (v +ℤ pos (p * step)) (pos step) in
    omega (arith, one-zero v, s.up, s.dn, d.up, d.dn)

step_same : (v : ℤ) (step p q : ℕ) → 0 < step → step_to v p step ≡ step_to v q step → p ≡ q
step_same v step p q h e =
    let s = parts_same e in
    let d : p * step ≡ q * step = omega (arith, s.0, s.1, step_net v step p, step_net v step q) in
    sym (mul-div_cancel p h) ∙ ap (λ (n : ℕ). n / step) d ∙ mul-div_cancel q h

step_still : (v : ℤ) (step : ℕ) → step_to v 1 step ≡ v
step_still v step =
    let s = sum v (pos (1 * step)) in
    let d = diff (v +ℤ pos (1 * step)) (pos step) in
    same _ _ (omega (arith, one-zero v, s.up, s.dn, d.up, d.dn))

place_same : (j k : ℕ) → square_place j ≡ square_place k → j ≡ k
place_same j k e = go (dec_lt j 4) (dec_lt k 4)
  where
    go : Dec (j < 4) → Dec (k < 4) → j ≡ k
    go (yes a) (yes b) = simp (lt-ltb j 4 a, lt-ltb k 4 b) at e
    go (yes a) (no b) = let d : j ≡ k + 1 = simp (lt-ltb j 4 a, le-ltb k 4 (omega arith)) at e in omega arith
    go (no a) (yes b) = let d : j + 1 ≡ k = simp (le-ltb j 4 (omega arith), lt-ltb k 4 b) at e in omega arith
    go (no a) (no b) = let d : j + 1 ≡ k + 1 = simp (le-ltb j 4 (omega arith), le-ltb k 4 (omega arith)) at e in omega arith

not_middle : (k : ℕ) → square_place k ≡ 4 → ⊥
not_middle k e = go (dec_lt k 4)
  where
    go : Dec (k < 4) → ⊥
    go (yes a) = let d : k ≡ 4 = simp (lt-ltb k 4 a) at e in omega arith
    go (no a) = let d : k + 1 ≡ 4 = simp (le-ltb k 4 (omega arith)) at e in omega arith

module _ (v : Mv) (step : ℕ) (h : 0 < step) where
  not-centre : (k : ℕ) → raster_of v step k ≡ v → ⊥
  unfolding raster_of
  not-centre k e =
      let p = step_same v.row step (square_place k / 3) 1 h (ap (λ (u : Mv). u.row) e ∙ sym (step_still v.row step)) in
      let q = step_same v.col step (square_place k % 3) 1 h (ap (λ (u : Mv). u.col) e ∙ sym (step_still v.col step)) in
      not_middle k (omega arith)

  not_twice : (j k : ℕ) → raster_of v step j ≡ raster_of v step k → j ≡ k
  unfolding raster_of
  not_twice j k e =
      let p = step_same v.row step (square_place j / 3) (square_place k / 3) h (ap (λ (u : Mv). u.row) e) in
      let q = step_same v.col step (square_place j % 3) (square_place k % 3) h (ap (λ (u : Mv). u.col) e) in
      place_same j k (omega arith)

  -- skipping never occurs: no neighbour is equal to the best so far
  pub no_skip : (cost : Mv → ℕ) (k : ℕ) → raster_of v step k ≡ best_of cost v (raster_of v step) k → ⊥
  no_skip cost k e =
      ⊎_elim (λ s. not-centre k (e ∙ s)) (λ c. again c (not_twice k c.at (e ∙ c.is))) (best_is cost v (raster_of v step) k).which
    where
      again : (c : Chosen cost v (raster_of v step) k (best_of cost v (raster_of v step) k)) → k ≡ c.at → ⊥
      again c s = omega (arith, c.within)

-- the result stays in range
module _ (cost : Mv → ℕ) (v : Mv) (step : ℕ) (room : Room step v) where
  refine-range : InRange (refine cost step v).mv
  refine-range =
      ⊎_elim (λ e. rw e (record { row = omega (arith, room.row); col = omega (arith, room.col) }))
      (λ c. rw c.is (clear v step c.at c.within room).range)
      (refine_best cost step v).which

  pub refine-inside : out_of_range (refine cost step v).mv ≡ false
  refine-inside = range-line _ refine-range

-- and a half refinement's on the grid of 2: the quarter refinement accepts it
even_step : (z : ℤ) (p : ℕ) → nat_abs z % 4 ≡ 0 → nat_abs (step_to z p 2) % 2 ≡ 0
even_step z p e = go (self z).abs (self (step_to z p 2)).abs (step_net z 2 p)
  where
    go : nat_abs z ≡ above z + below z → nat_abs (step_to z p 2) ≡ above (step_to z p 2) + below (step_to z p 2)
        → above (step_to z p 2) + below z + 2 ≡ below (step_to z p 2) + above z + p * 2 → nat_abs (step_to z p 2) % 2 ≡ 0
    go a b n = omega (arith, one-zero z, one-zero (step_to z p 2))

module _ (cost : Mv → ℕ) (v : Mv) (grid : off_grid 4 v ≡ false) where
  even_raster : (k : ℕ) → Multiple 2 (raster_of v 2 k)
  unfolding raster_of
  even_raster k =
      let m = multiple 4 v grid in
      record { row = even_step v.row (square_place k / 3) m.row; col = even_step v.col (square_place k % 3) m.col }

  even_centre : Multiple 2 v
  even_centre =
      let m = multiple 4 v grid in
      record { row = omega (arith, m.row); col = omega (arith, m.col) }

  pub half_multiple : off_grid 2 (refine cost 2 v).mv ≡ false
  half_multiple =
      grid-line 2 (refine cost 2 v).mv (⊎_elim (λ e. rw e even_centre) (λ c. rw c.is (even_raster c.at)) (refine_best cost 2 v).which)
