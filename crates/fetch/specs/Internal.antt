-- What the private functions promise each other. No public contract uses these definitions. Assumes nothing.
use Rattle.std.specs.Prelude.{List, ◌≡◌, ℕ, ◌+◌, ◌-◌, ◌*◌, ◌/◌, ◌%◌, ◌≤◌, ◌<◌, min, get_or, pos, ◌-ℤ◌, Result, ⊤}
use Rattle.laws.specs.Outcome.{Outcome, Line, first_of}
use Rattle.prediction.specs.Plane.{Plane, sample_at}
use Rattle.prediction.specs.declared.motion_vector.Mv.{Mv}
use Rattle.prediction.specs.Prediction.{square_of, offset_by}
use Rattle.fetch.specs.declared.FetchRefusal.{FetchRefusal}
use Rattle.fetch.specs.Refusals.{fetch_lines, fetch_outcome}

-- sample i of an n by n square of a plane, from column x - bias and row y - bias on
unfoldable pub entry : ℕ → ℕ → Plane → ℕ → ℕ → ℕ → ℕ
entry n bias p x y i =
    get_or p.bytes (p.start + min (y + i / n - bias) (p.rows - 1) * p.stride + min (x + i % n - bias) (p.columns - 1)) 0

-- what a fetch of the n by n samples from margin left and above of the place gives
abbrev pub square_at : ℕ → ℕ → Plane → ℕ → ℕ → Mv → Outcome (List ℕ)
square_at n margin p x y v =
    first_of (fetch_lines p x y) (square_of n (pos 0 -ℤ pos margin) (pos 0 -ℤ pos margin) (offset_by x y v (sample_at p)))

-- the answer is that of the first line that applies, whatever the block
abbrev pub Decides : List Line → Result ⊤ FetchRefusal → Type 0
Decides lines answer = (block : List ℕ) → fetch_outcome answer block ≡ first_of lines block

-- what an accepted fetch knows
pub record Legal (len stride w h x y : ℕ) : Type 0 where
  pub wide : 0 < w
  pub high : 0 < h
  pub long : (h - 1) * stride + w ≤ len
  pub left : x ≤ 16368
  pub top : y ≤ 16368
