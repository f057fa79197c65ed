-- The grid of whole vectors: clamping and cutting, and where a neighbour is skipped. Assumes nothing.
use Rattle.std.proofs.Common.{◌≡◌, refl, sym, ap, ◌∙◌, Bool, true, false, cond, ◌&&◌, ℕ, ◌+◌, ◌*◌, ◌/◌, ◌%◌, ◌≤◌, ◌<◌, min, arith, ℤ, pos, negsuc, neg_ℤ, nat_abs, ◌+ℤ◌, ◌*ℤ◌, w16, SFits}
use Rattle.std.specs.Int.Signed.{lt_z, quot_z}
use Rattle.std.proofs.Math.Decide.{dec_lt}
use Rattle.laws.specs.Signed.{above, below, eq_z}
use Rattle.laws.proofs.Signed.{fits, self, same, sum, times, quot, floor, diff, lt-true, lt-false, not-lt, one-zero, eq-eq_z, ne-eq_z, parts_same}
use Rattle.prediction.specs.declared.motion_vector.Mv.{Mv}
use Rattle.search.specs.Search.{clamped_mv, on_grid, gridded, stepped, same_mv}
use Rattle.prediction.specs.Vector.{doubled, whole_of, fraction_of}
use Rattle.search.specs.Refusals.{out_of_range, off_grid}
use Rattle.search.specs.Internal.{Grid, Whole, Copied}
use Rattle.search.proofs.Accepted.{in_range, multiple, range-line, grid-line}

-- a component on the grid, and one that is a step away, fit 16 bits
pub grid-fits : (z : ℤ) → Grid z → SFits w16 z
grid-fits z g = fits (omega (arith, g.up)) (omega (arith, g.dn))

pub near_fits : (v d : ℤ) → Grid v → above d ≤ 4 → below d ≤ 4 → SFits w16 (v +ℤ d)
near_fits v d g a b = fits (omega (arith, g.up, (sum v d).up)) (omega (arith, g.dn, (sum v d).dn))

pub grid_near : (z : ℤ) → Grid z → nat_abs z ≤ 1023
grid_near z g = omega (arith, g.up, g.dn, (self z).abs, one-zero z)

-- a component in range fits 16 bits
pub range-fits : (z : ℤ) → nat_abs z ≤ 1023 → SFits w16 z
range-fits z h = fits (omega (arith, (self z).abs)) (omega (arith, (self z).abs))

pub record Cut (z : ℤ) (p n : ℕ) : Type 0 where
  pub up : above z ≡ p
  pub dn : below z ≡ n

pub clamp_parts : (v : ℤ) → Cut (clamped_mv v) (min (above v) 1023) (min (below v) 1023)
clamp_parts v = go (lt_z v (neg_ℤ (pos 1023))) (lt_z (pos 1023) v) refl refl
  where
    go : (s t : Bool) → lt_z v (neg_ℤ (pos 1023)) ≡ s → lt_z (pos 1023) v ≡ t → Cut (cond s (neg_ℤ (pos 1023)) (cond t (pos 1023) v)) (min (above v) 1023) (min (below v) 1023)
    go true t e f = omega (arith, lt-true v (neg_ℤ (pos 1023)) e, one-zero v)
    go false true e f = omega (arith, lt-true (pos 1023) v f, one-zero v)
    go false false e f = omega (arith, lt-false v (neg_ℤ (pos 1023)) e, lt-false (pos 1023) v f, one-zero v)

pub grid-parts : (v : ℤ) → Cut (on_grid v) (min (above v) 1023 / 4 * 4) (min (below v) 1023 / 4 * 4)
grid-parts v =
    let c = clamp_parts v in
    let q = quot (clamped_mv v) 4 in
    let t = times (quot_z (clamped_mv v) (pos 4)) 4 in
    record { up = t.up ∙ ap (λ (n : ℕ). n * 4) (q.up ∙ ap (λ (n : ℕ). n / 4) c.up); dn = t.dn ∙ ap (λ (n : ℕ). n * 4) (q.dn ∙ ap (λ (n : ℕ). n / 4) c.dn) }

-- every centre and every neighbour is on the grid and in range
pub on_grid_lem : (v : ℤ) → Grid (on_grid v)
on_grid_lem v =
    let p = grid-parts v in
    let u = p.up in
    let d = p.dn in
    record { up = omega arith; dn = omega arith; up4 = omega arith; dn4 = omega arith }

-- one step from the grid: clamping and cutting change nothing short of the edge, and give the component back at it
module _ (v : ℤ) (g : Grid v) where
  step_more : above v < 1020 → on_grid (v +ℤ pos 4) ≡ v +ℤ pos 4
  step_more h =
      let p = grid-parts (v +ℤ pos 4) in
      let s = sum v (pos 4) in
      same _ _ (omega (arith, p.up, p.dn, s.up, s.dn, one-zero v))

  step_most : 1020 ≤ above v → on_grid (v +ℤ pos 4) ≡ v
  step_most h =
      let p = grid-parts (v +ℤ pos 4) in
      let s = sum v (pos 4) in
      same _ _ (omega (arith, p.up, p.dn, s.up, s.dn, one-zero v))

  step_less : below v < 1020 → on_grid (v +ℤ neg_ℤ (pos 4)) ≡ v +ℤ neg_ℤ (pos 4)
  step_less h =
      let p = grid-parts (v +ℤ neg_ℤ (pos 4)) in
      let s = sum v (neg_ℤ (pos 4)) in
      same _ _ (omega (arith, p.up, p.dn, s.up, s.dn, one-zero v))

  step_least : 1020 ≤ below v → on_grid (v +ℤ neg_ℤ (pos 4)) ≡ v
  step_least h =
      let p = grid-parts (v +ℤ neg_ℤ (pos 4)) in
      let s = sum v (neg_ℤ (pos 4)) in
      same _ _ (omega (arith, p.up, p.dn, s.up, s.dn, one-zero v))

  pub step_none : on_grid (v +ℤ pos 0) ≡ v
  step_none =
      let p = grid-parts (v +ℤ pos 0) in
      let s = sum v (pos 0) in
      same _ _ (omega (arith, p.up, p.dn, s.up, s.dn, one-zero v))

  apart_up : above v < 1020 → v +ℤ pos 4 ≡ v → ⊥
  apart_up h e = omega (arith, (sum v (pos 4)).up, (sum v (pos 4)).dn, parts_same e, one-zero v)

  apart_dn : below v < 1020 → v +ℤ neg_ℤ (pos 4) ≡ v → ⊥
  apart_dn h e = omega (arith, (sum v (neg_ℤ (pos 4))).up, (sum v (neg_ℤ (pos 4))).dn, parts_same e, one-zero v)

  edge-up : eq_z (on_grid (v +ℤ pos 4)) v ≡ eq_z v (pos 1020)
  edge-up = go (dec_lt (above v) 1020)
    where
      go : Dec (above v < 1020) → eq_z (on_grid (v +ℤ pos 4)) v ≡ eq_z v (pos 1020)
      go (yes l) = ne-eq_z _ v (λ e. apart_up l (sym (step_more l) ∙ e)) ∙ sym (ne-eq_z v (pos 1020) (λ e. omega (arith, parts_same e)))
      go (no f) = eq-eq_z _ v (step_most (omega arith)) ∙ sym (eq-eq_z v (pos 1020) (same v (pos 1020) (omega (arith, one-zero v))))

  edge-dn : eq_z (on_grid (v +ℤ neg_ℤ (pos 4))) v ≡ eq_z v (neg_ℤ (pos 1020))
  edge-dn = go (dec_lt (below v) 1020)
    where
      go : Dec (below v < 1020) → eq_z (on_grid (v +ℤ neg_ℤ (pos 4))) v ≡ eq_z v (neg_ℤ (pos 1020))
      go (yes l) = ne-eq_z _ v (λ e. apart_dn l (sym (step_less l) ∙ e)) ∙ sym (ne-eq_z v (neg_ℤ (pos 1020)) (λ e. omega (arith, parts_same e)))
      go (no f) = eq-eq_z _ v (step_least (omega arith)) ∙ sym (eq-eq_z v (neg_ℤ (pos 1020)) (same v (neg_ℤ (pos 1020)) (omega (arith, one-zero v))))

-- a neighbour of a whole vector is skipped exactly at plus or minus 1020
and-true : (b : Bool) → (b && true) ≡ b
and-true true = refl
and-true false = refl

module _ (v : Mv) (gr : Grid v.row) (gc : Grid v.col) where
  pub skip_up : same_mv (stepped (neg_ℤ (pos 4)) (pos 0) v) v ≡ eq_z v.row (neg_ℤ (pos 1020))
  skip_up = rw (edge-dn v.row gr, eq-eq_z _ _ (step_none v.col gc)) (and-true _)

  pub skip_down : same_mv (stepped (pos 4) (pos 0) v) v ≡ eq_z v.row (pos 1020)
  skip_down = rw (edge-up v.row gr, eq-eq_z _ _ (step_none v.col gc)) (and-true _)

  pub skip_left : same_mv (stepped (pos 0) (neg_ℤ (pos 4)) v) v ≡ eq_z v.col (neg_ℤ (pos 1020))
  skip_left = rw (eq-eq_z _ _ (step_none v.row gr), edge-dn v.col gc)

  pub skip_right : same_mv (stepped (pos 0) (pos 4) v) v ≡ eq_z v.col (pos 1020)
  skip_right = rw (eq-eq_z _ _ (step_none v.row gr), edge-up v.col gc)

pub whole : (v : Mv) → Whole (gridded v)
whole v = record { row = on_grid_lem v.row; col = on_grid_lem v.col }

-- a component in range is doubled without wrapping
pub doubled_is : (z : ℤ) → nat_abs z ≤ 1023 → doubled z ≡ z *ℤ pos 2
doubled_is z h =
    let t = times z 2 in
    let a : lt_z (z *ℤ pos 2) (negsuc 32767) ≡ false = not-lt (z *ℤ pos 2) (negsuc 32767) (omega (arith, t.up, t.dn, (self z).abs)) in
    let b : lt_z (pos 32767) (z *ℤ pos 2) ≡ false = not-lt (pos 32767) (z *ℤ pos 2) (omega (arith, t.up, t.dn, (self z).abs)) in
    simp (a, b)

-- a whole vector has no fractions
no_fraction : (z : ℤ) → Grid z → fraction_of (doubled z) ≡ 0
no_fraction z g = rw (doubled_is z (grid_near z g)) (go (z *ℤ pos 2) (times z 2).up (times z 2).dn)
  where
    go : (d : ℤ) → above d ≡ above z * 2 → below d ≡ below z * 2 → fraction_of d ≡ 0
    go d u n =
        let f = floor d 7 in
        let t = times (whole_of d) 8 in
        let p : above d / 8 * 8 ≡ above d = omega (arith, g.up4) in
        let q : (below d + 7) / 8 * 8 ≡ below d = omega (arith, g.dn4) in
        let r : above (whole_of d *ℤ pos 8) ≡ above d = t.up ∙ ap (λ (k : ℕ). k * 8) f.up ∙ p in
        let s : below (whole_of d *ℤ pos 8) ≡ below d = t.dn ∙ ap (λ (k : ℕ). k * 8) f.dn ∙ q in
        omega (arith, r, s, (diff d (whole_of d *ℤ pos 8)).up)

pub whole_copied : (v : Mv) → Whole v → Copied v
whole_copied v w = record { row = no_fraction v.row w.row; col = no_fraction v.col w.col }

-- and is refused by neither 11 nor 12
pub whole-inside : (v : Mv) → Whole v → out_of_range v ≡ false
whole-inside v w = range-line v (record { row = grid_near v.row w.row; col = grid_near v.col w.col })

grid-four : (z : ℤ) → Grid z → nat_abs z % 4 ≡ 0
grid-four z g = omega (arith, g.up4, g.dn4, (self z).abs, one-zero z)

pub whole_multiple : (v : Mv) → Whole v → off_grid 4 v ≡ false
whole_multiple v w = grid-line 4 v (record { row = grid-four v.row w.row; col = grid-four v.col w.col })

-- and back: what neither 11 nor 12 refuses is a whole vector
four-grid : (z : ℤ) → nat_abs z ≤ 1023 → nat_abs z % 4 ≡ 0 → Grid z
four-grid z h e =
    record {
      up = omega (arith, (self z).abs, one-zero z);
      dn = omega (arith, (self z).abs, one-zero z);
      up4 = omega (arith, (self z).abs, one-zero z);
      dn4 = omega (arith, (self z).abs, one-zero z);
    }

pub measured-whole : (v : Mv) → out_of_range v ≡ false → off_grid 4 v ≡ false → Whole v
measured-whole v range e =
    let r = in_range v range in
    let m = multiple 4 v e in
    record { row = four-grid v.row r.row m.row; col = four-grid v.col r.col m.col }
