-- Samples of a plane: inside, the byte at its place; outside, the nearest edge sample. Assumes nothing.
use mathlib.Core.Path.{◌≡◌, refl, ap}
use Prim.Native.Nat.{ℕ, ◌+◌, ◌*◌, ◌-◌, ◌≤◌, ◌<◌, min}
use native.Mathlib.Omega.{arith}
use lib.IntN.{ℤ, pos, negsuc}
use lib.ListN.{get_or}
use Rattle.prediction.specs.Plane.{Plane, nearest_in, sample_at}

module _ (p : Plane) where
  pub inside : (x y : ℕ) → x < p.columns → y < p.rows → sample_at p (pos x) (pos y) ≡ get_or p.bytes (p.start + y * p.stride + x) 0
  unfolding sample_at
  inside x y hx hy =
      let a : min x (p.columns - 1) ≡ x = omega arith in
      let b : min y (p.rows - 1) ≡ y = omega arith in
      rw (a, b)

  -- left of the plane and above it, the first column and row; to the right and below, the last
  pub left_of : (n : ℕ) (y : ℤ) → sample_at p (negsuc n) y ≡ sample_at p (pos 0) y
  unfolding sample_at
  left_of n y = refl

  pub above_of : (x : ℤ) (n : ℕ) → sample_at p x (negsuc n) ≡ sample_at p x (pos 0)
  unfolding sample_at
  above_of x n = refl

  pub right_of : (x : ℕ) (y : ℤ) → p.columns ≤ x → sample_at p (pos x) y ≡ sample_at p (pos (p.columns - 1)) y
  unfolding sample_at
  right_of x y h =
      let a : min x (p.columns - 1) ≡ min (p.columns - 1) (p.columns - 1) = omega arith in
      ap (λ (i : ℕ). get_or p.bytes (p.start + nearest_in p.rows y * p.stride + i) 0) a

  pub below_of : (x : ℤ) (y : ℕ) → p.rows ≤ y → sample_at p x (pos y) ≡ sample_at p x (pos (p.rows - 1))
  unfolding sample_at
  below_of x y h =
      let a : min y (p.rows - 1) ≡ min (p.rows - 1) (p.rows - 1) = omega arith in
      ap (λ (i : ℕ). get_or p.bytes (p.start + i * p.stride + nearest_in p.columns x) 0) a
