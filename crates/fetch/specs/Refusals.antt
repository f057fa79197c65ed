-- Refusals 8, 9 and 10 of document 01 in its order, and the number of each. Assumes nothing.
use Rattle.std.specs.Prelude.{◌≡◌, List, [], ◌∷◌, ℕ, Result, ⊤}
use Rattle.laws.specs.Outcome.{Outcome, refused, Line, line, first_of, after, beside_outcome}
use Rattle.prediction.specs.declared.motion_vector.Mv.{Mv}
use Rattle.prediction.specs.Plane.{Plane, sample_at}
use Rattle.prediction.specs.Prediction.{macroblock_of, halo_of, offset_by}
use Rattle.prediction.specs.Refusals.{bad_size, short_plane, bad_origin, block_of}
use Rattle.fetch.specs.declared.FetchRefusal.{FetchRefusal}
use Rattle.fetch.specs.declared.FetchRefusal.TheVariants.{BadSize, ShortPlane, BadOrigin}

abbrev pub fetch_lines : Plane → ℕ → ℕ → List Line
fetch_lines p x y = line 8 (bad_size p) [] ∷ line 9 (short_plane p) [] ∷ line 10 (bad_origin x y) [] ∷ []

-- what the two calls give at a pixel origin and a vector in eighths: the first refusal that applies, or the block
abbrev pub macroblock_at : Plane → ℕ → ℕ → Mv → Outcome (List ℕ)
macroblock_at p x y v = first_of (fetch_lines p x y) (macroblock_of (offset_by x y v (sample_at p)))

abbrev pub halo_at : Plane → ℕ → ℕ → Mv → Outcome (List ℕ)
halo_at p x y v = first_of (fetch_lines p x y) (halo_of (offset_by x y v (sample_at p)))

-- the number and the values of each refusal
abbrev pub fetch_refusal : {A : Type 0} → FetchRefusal → Outcome A
fetch_refusal BadSize = refused 8 []
fetch_refusal ShortPlane = refused 9 []
fetch_refusal BadOrigin = refused 10 []

-- the outcome of an answer, with the block beside it
abbrev pub fetch_outcome : Result ⊤ FetchRefusal → List ℕ → Outcome (List ℕ)
fetch_outcome = beside_outcome fetch_refusal

-- what a fetch promises: the outcome, and the block of n samples
pub record FetchIs (expected : Outcome (List ℕ)) (n : ℕ) (answer : Result ⊤ FetchRefusal) (block : List ℕ) : Type 0 where
  pub outcome : fetch_outcome answer block ≡ expected
  pub beside : block ≡ block_of n expected

-- what a fetch into a lent array promises: the outcome, and that the array is kept where the fetch refuses
pub record FillIs (expected : Outcome (List ℕ)) (answer : Result ⊤ FetchRefusal) (old held : List ℕ) : Type 0 where
  pub outcome : fetch_outcome answer held ≡ expected
  pub kept : held ≡ after expected old held
