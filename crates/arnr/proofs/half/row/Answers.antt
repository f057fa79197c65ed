-- `arnr::half::row` meets its contract. Assumes nothing.
use Rattle.std.proofs.Common.{arith, ◌≡◌, ◌≤◌, ◌%◌, ℤ, pos, nat_abs, ◌-ℤ◌, ◌*ℤ◌, w32, SFits}
use Rattle.std.proofs.Math.Facts.{to_z-of_z}
use Rattle.laws.specs.Signed.{above, below}
use Rattle.laws.proofs.Signed.{signs, floor, floor_shift, times, diff, one-zero, self, fits}
use Rattle.denoiser.specs.Chroma.{half_down, half_row}
use Rattle.arnr.proofs.half.row.Goals as goal

module _ (v : ℤ) (h : (above v ≤ 15) × (below v ≤ 15)) where
  abbrev rest : ℤ
  rest = v -ℤ half_down v *ℤ pos 2

  rest-most : above rest ≤ 1
  rest-most = omega (arith, one-zero v, (floor v 1).up, (floor v 1).dn, (times (half_down v) 2).up, (times (half_down v) 2).dn, (diff v (half_down v *ℤ pos 2)).up)

  rest-least : below rest ≡ 0
  rest-least = omega (arith, one-zero v, (floor v 1).up, (floor v 1).dn, (times (half_down v) 2).up, (times (half_down v) 2).dn, (diff v (half_down v *ℤ pos 2)).dn)

  half-fits : SFits w32 (half_down v)
  half-fits = fits (omega (arith, (floor v 1).up)) (omega (arith, (floor v 1).dn))

  twice_fits : SFits w32 (half_down v *ℤ pos 2)
  twice_fits = fits (omega (arith, (floor v 1).up, (times (half_down v) 2).up)) (omega (arith, (floor v 1).dn, (times (half_down v) 2).dn))

  rest-fits : SFits w32 rest
  rest-fits = fits (omega (arith, rest-most)) (omega (arith, rest-least))

  four-fits : SFits w32 (rest *ℤ pos 4)
  four-fits = fits (omega (arith, rest-most, (times rest 4).up)) (omega (arith, rest-least, (times rest 4).dn))

  not-less : below (rest *ℤ pos 4) ≡ 0
  not-less = omega (arith, rest-least, (times rest 4).dn)

  four_is : nat_abs (rest *ℤ pos 4) ≡ half_row v
  four_is = omega (arith, rest-least, (times rest 4).up, (times rest 4).dn, (self (rest *ℤ pos 4)).abs)

  four-most : nat_abs (rest *ℤ pos 4) ≤ 4
  four-most = omega (arith, four_is, rest-most)

  four-by : nat_abs (rest *ℤ pos 4) % 4 ≡ 0
  four-by = omega (arith, four_is)

pub overflow_cast-result : goal.overflow_cast-result
overflow_cast-result c =
    let v = c.args.v in
    let f = c.ranges.v in
    simp (to_z-of_z f, floor_shift v 2, to_z-of_z (half-fits v c.requires), to_z-of_z (twice_fits v c.requires), to_z-of_z (rest-fits v c.requires), to_z-of_z (four-fits v c.requires))
    (omega (arith, signs, not-less v c.requires, four-most v c.requires))

pub returns : goal.returns
returns c =
    let v = c.args.v in
    let f = c.ranges.v in
    simp (to_z-of_z f, floor_shift v 2, to_z-of_z (half-fits v c.requires), to_z-of_z (twice_fits v c.requires), to_z-of_z (rest-fits v c.requires), to_z-of_z (four-fits v c.requires))
    (four_is v c.requires, four-most v c.requires, four-by v c.requires)
