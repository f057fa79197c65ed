-- `arnr::sad::edge` meets its contract. Assumes nothing.
use Rattle.std.proofs.Common.{arith, ◌≡◌, ◌∙◌, ap, ℕ, ◌-◌, ◌<◌, min, ℤ, pos, ◌+ℤ◌, ◌-ℤ◌, w32, to_z, of_z, SFits}
use Rattle.std.proofs.Math.Facts.{to_z_pos, to_z-of_z}
use Rattle.std.proofs.Math.IntN.{nat_abs}
use Rattle.std.proofs.lemmas.Int.{ints, int_max_is, int_min_is}
use Rattle.std.specs.Int.{int_max, int_min}
use Rattle.laws.specs.Signed.{above}
use Rattle.laws.proofs.Signed.{range, sum, diff, self, back}
use Rattle.arnr.proofs.sad.edge.Goals as goal

-- z, cut to 0 .. n - 1
cut : (z : ℤ) (n : ℕ) → 0 < n → nat_abs (int_max (pos 0) (int_min z (pos n -ℤ pos 1))) ≡ min (above z) (n - 1)
cut z n h =
    omega (arith, ints, self z, diff (pos n) (pos 1), int_min_is z (pos n -ℤ pos 1), int_max_is (pos 0) (int_min z (pos n -ℤ pos 1)))

pub returns : goal.returns
returns c =
    let x = pos c.args.x in
    let n = pos c.args.n in
    let d = c.args.d in
    let x_is : to_z w32 c.args.x ≡ x = to_z_pos w32 (omega arith) in
    let n_is : to_z w32 c.args.n ≡ n = to_z_pos w32 (omega arith) in
    let d_is : to_z w32 (of_z w32 d) ≡ d = to_z-of_z c.ranges.d in
    let sum-fits : SFits w32 (x +ℤ d) = omega (arith, sum x d, range c.ranges.d) in
    let last-fits : SFits w32 (n -ℤ pos 1) = omega (arith, diff n (pos 1)) in
    let e : c.clamp.result ≡ int_max (pos 0) (int_min (x +ℤ d) (n -ℤ pos 1)) = simp (x_is, n_is, d_is, to_z-of_z sum-fits, to_z-of_z last-fits) at c.clamp.ensures.value in
    simp (back w32 c.clamp.result c.clamp.type_inv) (ap nat_abs e ∙ cut (x +ℤ d) c.args.n c.requires.1)
