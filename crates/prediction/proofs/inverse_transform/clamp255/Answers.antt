-- `clamp255` meets its contract: of v it keeps what is not below 0, and then of what that leaves of 255. Assumes nothing.
use mathlib.Core.Path.{◌≡◌, ap, ◌∙◌}
use Prim.Native.Nat.{◌-◌}
use native.Mathlib.Omega.{arith}
use lib.Dec.{T}
use lib.IntN.{ℤ, pos, nat_abs, ◌-ℤ◌}
use lib.Signed.{non_neg}
use mir.Syntax.{w8, w32}
use mir.Val.{SFits, Fits}
use mir.Facts.{to_z-of_z}
use Rattle.laws.specs.Signed.{above}
use Rattle.laws.proofs.Signed.{same, diff, range, sign_of}
use Rattle.prediction.specs.Samples.{clamped255}
use Rattle.prediction.proofs.Cells.{kept, held_sign, held-factor, held_kept}
use Rattle.prediction.proofs.inverse_transform.clamp255.Goals as goal

-- what v, or 0 where v is below 0, leaves of 255; and 255 less that, or less 0 where that is below 0
abbrev room : ℤ → ℤ
room v = pos 255 -ℤ kept v

abbrev last : ℤ → ℤ
last v = pos 255 -ℤ kept (room v)

module _ (v : ℤ) (f : SFits w32 v) where
  fits-room : SFits w32 (room v)
  fits-room = rw (sign_of v f).kept (omega (arith, (range f).most, diff (pos 255) (pos (above v))))

  last_is : last v ≡ pos (clamped255 v)
  last_is =
      let r = diff (pos 255) (pos (above (room v))) in
      let e : above (room v) ≡ 255 - above v = rw (sign_of v f).kept (omega (arith, (diff (pos 255) (pos (above v))).up)) in
      ap (λ (z : ℤ). pos 255 -ℤ z) (sign_of _ fits-room).kept ∙ same _ _ (omega (arith, e, r.up, r.dn))

  fits_last : SFits w32 (last v)
  fits_last = rw last_is (record { sfits = omega arith })

  byte : T (non_neg (last v)) × Fits w8 (nat_abs (last v))
  byte = rw last_is (tt, record { fits = omega arith })

pub overflow_add-kept : goal.overflow_add-kept
overflow_add-kept c = let f = c.ranges.v in simp (to_z-of_z f, held_sign f) (sign_of _ f).fits_one

pub overflow_mul-kept : goal.overflow_mul-kept
overflow_mul-kept c = let f = c.ranges.v in simp (to_z-of_z f, held-factor f) (sign_of _ f).fits_kept

pub overflow_sub-room : goal.overflow_sub-room
overflow_sub-room c = let f = c.ranges.v in simp (to_z-of_z f, held_kept f) (fits-room _ f)

pub overflow_add-result : goal.overflow_add-result
overflow_add-result c =
    let f = c.ranges.v in let g = fits-room _ f in
    simp (to_z-of_z f, held_kept f, to_z-of_z g, held_sign g) (sign_of _ g).fits_one

pub overflow_mul-result : goal.overflow_mul-result
overflow_mul-result c =
    let f = c.ranges.v in let g = fits-room _ f in
    simp (to_z-of_z f, held_kept f, to_z-of_z g, held-factor g) (sign_of _ g).fits_kept

pub overflow_sub-result : goal.overflow_sub-result
overflow_sub-result c =
    let f = c.ranges.v in let g = fits-room _ f in
    simp (to_z-of_z f, held_kept f, to_z-of_z g, held_kept g) (fits_last _ f)

pub overflow_cast-result : goal.overflow_cast-result
overflow_cast-result c =
    let f = c.ranges.v in let g = fits-room _ f in
    simp (to_z-of_z f, held_kept f, to_z-of_z g, held_kept g, to_z-of_z (fits_last _ f)) (byte _ f)

pub returns : goal.returns
returns c =
    let f = c.ranges.v in let g = fits-room _ f in
    simp (to_z-of_z f, held_kept f, to_z-of_z g, held_kept g, to_z-of_z (fits_last _ f)) (ap nat_abs (last_is _ f))
