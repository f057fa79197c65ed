-- `abs_diff` meets its contract: of the difference and of its opposite it keeps what is not below 0. Assumes nothing.
use mathlib.Core.Path.{◌≡◌, ap}
use Prim.Native.Nat.{ℕ, ◌<◌}
use native.Mathlib.Omega.{arith}
use lib.Dec.{T}
use lib.IntN.{ℤ, pos, nat_abs, ◌+ℤ◌, ◌-ℤ◌}
use lib.Signed.{non_neg}
use mir.Syntax.{w8, w32}
use mir.Val.{SFits, Fits, to_z, of_z}
use mir.Facts.{to_z-of_z, to_z_pos}
use Rattle.laws.proofs.Signed.{diff, sign_of}
use Rattle.prediction.specs.Samples.{distance}
use Rattle.prediction.proofs.Cells.{kept, held_sign, held-factor, held_kept}
use Rattle.prediction.proofs.inverse_transform.abs_diff.Goals as goal

-- the difference, its opposite, and what is kept of the two
abbrev less : ℕ → ℕ → ℤ
less a b = pos a -ℤ pos b

abbrev opposite : ℕ → ℕ → ℤ
opposite a b = pos 0 -ℤ less a b

abbrev both : ℕ → ℕ → ℤ
both a b = kept (less a b) +ℤ kept (opposite a b)

-- what a local of 32 bits holds of a byte
held-byte : (n : ℕ) → n < 256 → to_z w32 n ≡ pos n
held-byte n h = to_z_pos w32 {n = n} (omega arith)

module _ (a b : ℕ) (ha : a < 256) (hb : b < 256) where
  fits-d : SFits w32 (less a b)
  fits-d = omega (arith, diff (pos a) (pos b))

  fits-e : SFits w32 (opposite a b)
  fits-e = omega (arith, diff (pos a) (pos b), diff (pos 0) (less a b))

  both_is : both a b ≡ pos (distance a b)
  both_is =
      rw ((sign_of _ fits-d).kept, (sign_of _ fits-e).kept)
      (ap pos (omega (arith, (diff (pos a) (pos b)).up, (diff (pos a) (pos b)).dn, (diff (pos 0) (less a b)).up)))

  fits_both : SFits w32 (both a b)
  fits_both = rw both_is (record { sfits = omega arith })

  byte : T (non_neg (both a b)) × Fits w8 (nat_abs (both a b))
  byte = rw both_is (tt, record { fits = omega arith })

  -- and of the difference and its opposite
  held-d : to_z w32 (of_z w32 (to_z w32 a -ℤ to_z w32 b)) ≡ less a b
  held-d = rw (held-byte a ha, held-byte b hb) (to_z-of_z fits-d)

  held-e : to_z w32 (of_z w32 (opposite a b)) ≡ opposite a b
  held-e = to_z-of_z fits-e

pub overflow_sub-d : goal.overflow_sub-d
overflow_sub-d c =
    let h = c.ranges.a.fits in let k = c.ranges.b.fits in
    simp (held-byte _ h, held-byte _ k) (fits-d _ _ h k)

pub overflow_sub-e : goal.overflow_sub-e
overflow_sub-e c =
    let h = c.ranges.a.fits in let k = c.ranges.b.fits in
    simp (held-d _ _ h k) (fits-e _ _ h k)

pub overflow_add-result : goal.overflow_add-result
overflow_add-result c =
    let h = c.ranges.a.fits in let k = c.ranges.b.fits in let f = fits-d _ _ h k in
    simp (held-d _ _ h k, held_sign f) (sign_of _ f).fits_one

pub overflow_mul-result : goal.overflow_mul-result
overflow_mul-result c =
    let h = c.ranges.a.fits in let k = c.ranges.b.fits in let f = fits-d _ _ h k in
    simp (held-d _ _ h k, held-factor f) (sign_of _ f).fits_kept

pub overflow_add-result-2 : goal.overflow_add-result-2
overflow_add-result-2 c =
    let h = c.ranges.a.fits in let k = c.ranges.b.fits in let g = fits-e _ _ h k in
    simp (held-d _ _ h k, held-e _ _ h k, held_sign g) (sign_of _ g).fits_one

pub overflow_mul-result-2 : goal.overflow_mul-result-2
overflow_mul-result-2 c =
    let h = c.ranges.a.fits in let k = c.ranges.b.fits in let g = fits-e _ _ h k in
    simp (held-d _ _ h k, held-e _ _ h k, held-factor g) (sign_of _ g).fits_kept

pub overflow_add-result-3 : goal.overflow_add-result-3
overflow_add-result-3 c =
    let h = c.ranges.a.fits in let k = c.ranges.b.fits in let f = fits-d _ _ h k in let g = fits-e _ _ h k in
    simp (held-d _ _ h k, held-e _ _ h k, held_kept f, held_kept g) (fits_both _ _ h k)

pub overflow_cast-result : goal.overflow_cast-result
overflow_cast-result c =
    let h = c.ranges.a.fits in let k = c.ranges.b.fits in let f = fits-d _ _ h k in let g = fits-e _ _ h k in
    simp (held-d _ _ h k, held-e _ _ h k, held_kept f, held_kept g, to_z-of_z (fits_both _ _ h k)) (byte _ _ h k)

pub returns : goal.returns
returns c =
    let h = c.ranges.a.fits in let k = c.ranges.b.fits in let f = fits-d _ _ h k in let g = fits-e _ _ h k in
    simp (held-d _ _ h k, held-e _ _ h k, held_kept f, held_kept g, to_z-of_z (fits_both _ _ h k)) (ap nat_abs (both_is _ _ h k))
