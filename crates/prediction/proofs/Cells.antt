-- What the two cells have in common: a number of 32 bits times one plus its sign, as the locals of 32 bits hold it. Assumes nothing.
use mathlib.Core.Path.{◌≡◌}
use lib.IntN.{ℤ, pos, ◌+ℤ◌, ◌*ℤ◌}
use lib.Signed.{shr_z}
use mir.Syntax.{w32}
use mir.Val.{SFits, to_z, of_z}
use mir.Facts.{to_z-of_z}
use Rattle.laws.proofs.Signed.{sign_of}

-- one plus the sign of z; and with it z itself, or 0 where z is below 0
abbrev pub factor : ℤ → ℤ
factor z = pos 1 +ℤ shr_z z 2147483648

abbrev pub kept : ℤ → ℤ
kept z = z *ℤ factor z

module _ {z : ℤ} (f : SFits w32 z) where
  pub held_sign : to_z w32 (of_z w32 (shr_z z 2147483648)) ≡ shr_z z 2147483648
  held_sign = to_z-of_z (sign_of z f).fits_sign

  pub held-factor : to_z w32 (of_z w32 (pos 1 +ℤ to_z w32 (of_z w32 (shr_z z 2147483648)))) ≡ factor z
  held-factor = rw held_sign (to_z-of_z (sign_of z f).fits_one)

  pub held_kept : to_z w32 (of_z w32 (z *ℤ to_z w32 (of_z w32 (pos 1 +ℤ to_z w32 (of_z w32 (shr_z z 2147483648)))))) ≡ kept z
  held_kept = rw held-factor (to_z-of_z (sign_of z f).fits_kept)
