-- Laws of the largest of a range and of rounding to nearest. Assumes nothing.
use mathlib.Core.Path.{◌≡◌}
use mathlib.Core.Logic.{⊎_elim}
use Prim.Native.Nat.{ℕ, zero, suc, ◌+◌, ◌*◌, ◌/◌, ◌≤◌, ◌<◌}
use native.Mathlib.Nat.{le-suc_iff, le-max_left, le-max_right, le_trans, div-lt_iff_lt-mul, mul-pos}
use native.Mathlib.Omega.{arith}
use Rattle.laws.specs.Largest.{largest, nearest}

-- each value is at most the largest
pub le-largest : (f : ℕ → ℕ) (n e : ℕ) → e < n → f e ≤ largest f n
unfolding largest
le-largest f zero e h = omega arith
le-largest f (suc n) e h =
    ⊎_elim (λ (l : suc e ≤ n). le_trans (le-largest f n e l) (le-max_left (largest f n) (f n)))
    (λ (q : suc e ≡ suc n). rw (e_is q) (le-max_right (largest f n) (f n))) (le-suc_iff.0 h)
  where
    e_is : suc e ≡ suc n → e ≡ n
    e_is q = omega arith

-- what it means that the nearest of a / b is at most m
pub nearest-le : (a b m : ℕ) → 0 < b → nearest a b ≤ m → 2 * a < (2 * m + 1) * b
unfolding nearest
nearest-le a b m hb h =
    let q : (2 * a + b) / (2 * b) < m + 1 = omega arith in
    let l : 2 * a + b < (m + 1) * (2 * b) = (div-lt_iff_lt-mul (mul-pos {m = 2} (omega arith) hb)).0 q in
    omega arith
