-- `rounded` meets its contract: 8192 is added before the division and taken away within it, and both ends are left to the clamp.
-- Assumes nothing.
use Rattle.std.proofs.Common.{◌≡◌, refl, ◌∙◌, ℕ, ◌+◌, ◌-◌, ◌/◌, ◌≤◌, min, arith, ℤ, pos, ◌-ℤ◌, w16, w32, SFits, to_z, of_z, to_z-of_z}
use Rattle.std.specs.Int.Signed.{shr_z}
use Rattle.std.proofs.Math.Facts.{to_z_pos}
use Rattle.laws.specs.Signed.{above, below, minus}
use Rattle.laws.proofs.Signed.{diff, floor, floor_shift, fits}
use Rattle.sixtap.proofs.rounded.Goals as goal

-- half of the difference plus 64 and 8192; that less 4096; and a 64th of this rounded down, the number that is clamped
abbrev half : ℕ → ℕ → ℕ
half p n = (p + 8256 - n) / 2

abbrev moved : ℕ → ℕ → ℤ
moved p n = pos (half p n) -ℤ pos 4096

abbrev unclamped : ℕ → ℕ → ℤ
unclamped p n = shr_z (moved p n) 64

-- the least that reaches the clamp is -64, the greatest 319
least : unclamped 0 8160 ≡ minus 64
least = refl

greatest : unclamped 40800 0 ≡ pos 319
greatest = refl

module _ (p n : ℕ) (hp : p ≤ 40800) (hn : n ≤ 8160) where
  up : above (unclamped p n) ≡ (half p n - 4096) / 64
  up = rw (floor_shift (moved p n) 64) (omega (arith, (floor (moved p n) 63).up, (diff (pos (half p n)) (pos 4096)).up))

  dn : below (unclamped p n) ≡ (4096 - half p n + 63) / 64
  dn = rw (floor_shift (moved p n) 64) (omega (arith, (floor (moved p n) 63).dn, (diff (pos (half p n)) (pos 4096)).dn))

  not-less : below (unclamped p n) ≤ 64
  not-less = omega (arith, dn)

  not_greater : above (unclamped p n) ≤ 319
  not_greater = omega (arith, up)

  fits_moved : SFits w16 (moved p n)
  fits_moved = omega (arith, diff (pos (half p n)) (pos 4096))

  fits_16 : SFits w16 (unclamped p n)
  fits_16 = fits (omega (arith, not_greater)) (omega (arith, not-less))

  fits_32 : SFits w32 (unclamped p n)
  fits_32 = fits (omega (arith, not_greater)) (omega (arith, not-less))

  -- what the locals of 16 bits hold
  held-half : to_z w16 (half p n) ≡ pos (half p n)
  held-half = to_z_pos w16 {n = half p n} (omega arith)

  held_moved : to_z w16 (of_z w16 (to_z w16 (half p n) -ℤ pos 4096)) ≡ moved p n
  held_moved = rw held-half (to_z-of_z fits_moved)

  clamped : min (above (unclamped p n)) 255 ≡ min ((p + 64 - n) / 128) 255
  clamped = omega (arith, up)

pub overflow_sub-half-2 : goal.overflow_sub-half-2
overflow_sub-half-2 c =
    let h = c.requires.0 in let k = c.requires.1 in
    simp (held-half _ _ h k) (fits_moved _ _ h k)

pub overflow_cast-half-2 : goal.overflow_cast-half-2
overflow_cast-half-2 c =
    let h = c.requires.0 in let k = c.requires.1 in
    simp (held_moved _ _ h k, to_z-of_z (fits_16 _ _ h k)) (fits_32 _ _ h k)

pub returns : goal.returns
returns c =
    let h = c.requires.0 in let k = c.requires.1 in
    (simp (held_moved _ _ h k, to_z-of_z (fits_16 _ _ h k), to_z-of_z (fits_32 _ _ h k)) at c.clamp255.ensures) ∙ clamped _ _ h k
