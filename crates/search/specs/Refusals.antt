-- Document 01's numbers of refusal 8 to 12 for the search and SAD calls, document 02's 23 before them where a call takes a version, and the
-- number of each refusal. Assumes nothing.
use Rattle.std.specs.Prelude.{Bool, ◌||◌, List, [], ◌∷◌, ◌++◌, ℕ, ◌%◌, ltb, ℤ, pos, nat_abs, Result}
use Rattle.std.specs.Int.Signed.{lt_z}
use Rattle.laws.specs.Signed.{minus}
use Rattle.laws.specs.Outcome.{Outcome, refused, Line, line, result_outcome}
use Rattle.prediction.specs.declared.motion_vector.Mv.{Mv}
use Rattle.prediction.specs.Plane.{Plane}
use Rattle.prediction.specs.Refusals.{bad_size, short_plane, version_lines}
use Rattle.search.specs.declared.SearchResult.{SearchResult}
use Rattle.search.specs.declared.DiamondResult.{DiamondResult}
use Rattle.search.specs.declared.PlaceRefusal.{PlaceRefusal}
use Rattle.search.specs.declared.PlaceRefusal.TheVariants as place
use Rattle.search.specs.declared.SearchRefusal.{SearchRefusal}
use Rattle.search.specs.declared.SearchRefusal.TheVariants as search

-- 10. A macroblock column or row exceeds 1023
abbrev pub bad_macroblock : ℕ → ℕ → Bool
bad_macroblock column row = ltb 1023 column || ltb 1023 row

-- 11. A component of a vector is outside -1023..1023
abbrev pub outside : ℤ → Bool
outside z = lt_z z (minus 1023) || lt_z (pos 1023) z

abbrev pub out_of_range : Mv → Bool
out_of_range v = outside v.row || outside v.col

-- 12. A component is not a multiple of n
abbrev pub not_multiple : ℕ → ℤ → Bool
not_multiple n z = ltb 0 (nat_abs z % n)

abbrev pub off_grid : ℕ → Mv → Bool
off_grid n v = not_multiple n v.row || not_multiple n v.col

-- the diamond: 8 to 10
abbrev pub place_lines : Plane → ℕ → ℕ → List Line
place_lines p column row = line 8 (bad_size p) [] ∷ line 9 (short_plane p) [] ∷ line 10 (bad_macroblock column row) [] ∷ []

-- a vector: 8 to 11
abbrev pub vector_lines : Plane → ℕ → ℕ → Mv → List Line
vector_lines p column row v = place_lines p column row ++ (line 11 (out_of_range v) [] ∷ [])

-- the SAD at a whole vector, and a vector on a grid of n: 8 to 12
abbrev pub grid_lines : ℕ → Plane → ℕ → ℕ → Mv → List Line
grid_lines n p column row v = vector_lines p column row v ++ (line 12 (off_grid n v) [] ∷ [])

-- the SAD at any vector: 23, then 8 to 11
abbrev pub any_sad_lines : ℕ → Plane → ℕ → ℕ → Mv → List Line
any_sad_lines version p column row v = version_lines version ++ vector_lines p column row v

-- the refinements: 23, then 8 to 12
abbrev pub refine_lines : ℕ → ℕ → Plane → ℕ → ℕ → Mv → List Line
refine_lines version n p column row v = version_lines version ++ grid_lines n p column row v

-- the number of each refusal; none has values
abbrev pub place_refusal : {A : Type 0} → PlaceRefusal → Outcome A
place_refusal place.BadSize = refused 8 []
place_refusal place.ShortPlane = refused 9 []
place_refusal place.BadMacroblock = refused 10 []

abbrev pub search_refusal : {A : Type 0} → SearchRefusal → Outcome A
search_refusal (search.Place p) = place_refusal p
search_refusal search.OutOfRange = refused 11 []
search_refusal search.OffGrid = refused 12 []
search_refusal search.BadVersion = refused 23 []

-- the outcome of each result
abbrev pub sad_outcome : Result ℕ SearchRefusal → Outcome ℕ
sad_outcome = result_outcome search_refusal

abbrev pub search_outcome : Result SearchResult SearchRefusal → Outcome SearchResult
search_outcome = result_outcome search_refusal

abbrev pub diamond_outcome : Result DiamondResult PlaceRefusal → Outcome DiamondResult
diamond_outcome = result_outcome place_refusal
