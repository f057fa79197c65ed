-- Squares of a plane, for the private functions. No public contract uses these definitions. Assumes nothing.
use Rattle.std.specs.Prelude.{ℕ, ◌+◌, ◌-◌, ◌≤◌}
use Rattle.prediction.specs.Plane.{luma_plane}
use Rattle.fetch.specs.declared.Square.{Square}
use Rattle.fetch.specs.Internal.{entry}

-- the samples, row by row
abbrev pub samples_of : {N : ℕ} → Square N → ℕ → ℕ
samples_of {N} s = entry N s.bias (luma_plane s.samples.now s.stride s.width s.height) s.x s.y

-- the square lies in the plane
pub record IsInside {N : ℕ} (s : Square N) : Type 0 where
  pub left : s.bias ≤ s.x
  pub top : s.bias ≤ s.y
  pub right : s.x - s.bias + N ≤ s.width
  pub bottom : s.y - s.bias + N ≤ s.height
