-- What the coordinates and tests of a displacement say, once its components are read as they are handed on: 32-bit numbers. Assumes nothing.
use Rattle.std.proofs.Common.{◌≡◌, ◌∙◌, ap, ℕ, ℤ, pos, ◌+ℤ◌, w32, to_z, of_z, FitsSigned}
use Rattle.std.proofs.Math.Facts.{to_z-of_z}
use Rattle.prediction.specs.Plane.{nearest_in}
use Rattle.denoiser.specs.Internal.{Runs}

module _ (n x : ℕ) (v : ℤ) (f : FitsSigned w32 v) where
  pub coordinate : {r : ℕ} → r ≡ nearest_in n (pos x +ℤ to_z w32 (of_z w32 v)) → r ≡ nearest_in n (pos x +ℤ v)
  coordinate e = e ∙ ap (λ (w : ℤ). nearest_in n (pos x +ℤ w)) (to_z-of_z f)

  pub running : (m : ℕ) → Runs x m (to_z w32 (of_z w32 v)) n → Runs x m v n
  running m r = rw (to_z-of_z f) at r
