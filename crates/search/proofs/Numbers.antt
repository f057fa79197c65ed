-- Which numbers a call can be refused with. Assumes nothing.
use Rattle.std.proofs.Common.{◌≡◌, refl, List, ℕ}
use Rattle.laws.specs.Outcome.{refused, first_of}
use Rattle.laws.proofs.Outcome.{never_refused}
use Rattle.prediction.specs.declared.motion_vector.Mv.{Mv}
use Rattle.prediction.specs.Plane.{Plane}
use Rattle.search.specs.declared.DiamondResult.{DiamondResult}
use Rattle.search.specs.Refusals.{place_lines, grid_lines, any_sad_lines}

-- the diamond never gives 11 or 12
pub diamond_never_11 : (p : Plane) (column row : ℕ) (r : DiamondResult) (v : List ℕ) → first_of (place_lines p column row) r ≡ refused 11 v → ⊥
diamond_never_11 p column row r v e = never_refused (place_lines p column row) r 11 v refl e

pub diamond_never_12 : (p : Plane) (column row : ℕ) (r : DiamondResult) (v : List ℕ) → first_of (place_lines p column row) r ≡ refused 12 v → ⊥
diamond_never_12 p column row r v e = never_refused (place_lines p column row) r 12 v refl e

-- the SAD at any vector never gives 12
pub any_sad_never_12 : (version : ℕ) (p : Plane) (column row : ℕ) (mv : Mv) (sad : ℕ) (v : List ℕ) → first_of (any_sad_lines version p column row mv) sad ≡ refused 12 v → ⊥
any_sad_never_12 version p column row mv sad v e = never_refused (any_sad_lines version p column row mv) sad 12 v refl e

-- the calls at whole vectors never give 23
pub diamond_never_23 : (p : Plane) (column row : ℕ) (r : DiamondResult) (v : List ℕ) → first_of (place_lines p column row) r ≡ refused 23 v → ⊥
diamond_never_23 p column row r v e = never_refused (place_lines p column row) r 23 v refl e

pub whole_sad_never_23 : (p : Plane) (column row : ℕ) (mv : Mv) (sad : ℕ) (v : List ℕ) → first_of (grid_lines 4 p column row mv) sad ≡ refused 23 v → ⊥
whole_sad_never_23 p column row mv sad v e = never_refused (grid_lines 4 p column row mv) sad 23 v refl e
