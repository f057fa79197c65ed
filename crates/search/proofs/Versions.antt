-- What a version changes, and what it leaves as it is. Assumes nothing.
use Rattle.std.specs.Prelude.{Err}
use Rattle.std.proofs.Common.{◌≡◌, refl, sym, ap, ◌∙◌, false, List, [], ◌∷◌, ◌++◌, ℕ, ◌*◌, ◌≤◌, ◌<◌, lt-ltb, le-ltb, pos, get_or}
use Rattle.laws.specs.Outcome.{Outcome, refused, Line, first_of}
use Rattle.laws.proofs.Outcome.{has, never_refused}
use Rattle.prediction.specs.declared.motion_vector.Mv.{Mv}
use Rattle.prediction.specs.declared.motion_comp.FilterSet.{FilterSet}
use Rattle.prediction.specs.declared.motion_comp.FilterSet.TheVariants.{Sixtap, Bilinear}
use Rattle.prediction.specs.Vector.{stored_mv}
use Rattle.prediction.specs.Plane.{Plane, luma_plane, sample_at}
use Rattle.prediction.specs.Filter.{FilterRows, sixtap, filter_set_of, taps_of, rows_for}
use Rattle.prediction.specs.Prediction.{macroblock_of, offset_by, predicted_mb}
use Rattle.prediction.specs.Refusals.{version_lines}
use Rattle.filters.specs.Sets.{Identity}
use Rattle.sixtap.proofs.Sizes.{sixtap-whole}
use Rattle.bilinear.proofs.Mean.{bilinear-whole}
use Rattle.search.specs.Sad.{sad16, cost_in, cost_of}
use Rattle.search.specs.Search.{diamond}
use Rattle.search.specs.declared.SearchResult.{SearchResult}
use Rattle.search.specs.declared.SearchRefusal.TheVariants as search
use Rattle.search.specs.Refusals.{vector_lines, grid_lines, any_sad_lines, refine_lines, sad_outcome, search_outcome}
use Rattle.search.specs.Internal.{Copied}
use Rattle.search.proofs.Grid.{whole_copied}
use Rattle.search.proofs.SadLaws.{copied_mb}
use Rattle.search.proofs.Descent.{diamond_good}

-- a call that takes a version, by its other lines and by its answer over a filter set
module _ {A : Type 0} (ls : List Line) (answer : FilterRows → A) where
  -- version 0: document 01's lines and the six-tap rows
  pub version_0 : first_of (version_lines 0 ++ ls) (answer (rows_for 0)) ≡ first_of ls (answer sixtap)
  version_0 = refl

  pub versions_1_2 : first_of (version_lines 1 ++ ls) (answer (rows_for 1)) ≡ first_of (version_lines 2 ++ ls) (answer (rows_for 2))
  versions_1_2 = refl

  -- 0 to 2 are never refused by their version, and every other is, whatever else is passed
  pub no_23 : (version : ℕ) (v : List ℕ) → version ≤ 2 → has 23 ls ≡ false → first_of (version_lines version ++ ls) (answer (rows_for version)) ≡ refused 23 v → ⊥
  no_23 version v h none e = never_refused ls (answer (rows_for version)) 23 v none (simp (le-ltb 2 version h) at e)

  pub always_23 : (version : ℕ) → 2 < version → first_of (version_lines version ++ ls) (answer (rows_for version)) ≡ refused 23 []
  always_23 version h = simp (lt-ltb 2 version h)

pub any_sad_no_23 : (version : ℕ) (p : Plane) (column row : ℕ) (mv : Mv) (cost : FilterRows → ℕ) (v : List ℕ) → version ≤ 2
    → first_of (any_sad_lines version p column row mv) (cost (rows_for version)) ≡ refused 23 v → ⊥
any_sad_no_23 version p column row mv cost v h = no_23 (vector_lines p column row mv) cost version v h refl

pub refine_no_23 : (version n : ℕ) (p : Plane) (column row : ℕ) (mv : Mv) (found : FilterRows → SearchResult) (v : List ℕ) → version ≤ 2
    → first_of (refine_lines version n p column row mv) (found (rows_for version)) ≡ refused 23 v → ⊥
refine_no_23 version n p column row mv found v h = no_23 (grid_lines n p column row mv) found version v h refl

-- row 0 is the identity in either set
pub taps_whole : (set : FilterSet) → Identity (taps_of set)
taps_whole Sixtap = sixtap-whole
taps_whole Bilinear = bilinear-whole

-- at a whole vector all sets give one cost
module _ (a b : FilterSet) (plane : Plane) (column row : ℕ) (src : List ℕ) (v : Mv) (bytes : (k : ℕ) → get_or plane.bytes k 0 < 256) where
  pub whole_any_version : Copied v → cost_in (taps_of a) plane column row src v ≡ cost_in (taps_of b) plane column row src v
  unfolding cost_in
  whole_any_version c = ap (sad16 src) (sym (copied a) ∙ copied b)
    where
      copied : (set : FilterSet)
          → macroblock_of (offset_by (16 * column) (16 * row) (stored_mv v) (sample_at plane)) ≡ predicted_mb (taps_of set) (sample_at plane) (16 * column) (16 * row) (stored_mv v)
      copied set = copied_mb (taps_of set) (taps_whole set) plane (16 * column) (16 * row) (stored_mv v) c.row c.col bytes

-- so a diamond's SAD is the cost at every version
pub diamond_any_version : (version : ℕ) (plane : Plane) (column row : ℕ) (src : List ℕ) (centre : Mv) (limit : ℕ) → ((k : ℕ) → get_or plane.bytes k 0 < 256)
    → (diamond (cost_of plane column row src) centre limit).sad
    ≡ cost_in (rows_for version) plane column row src (diamond (cost_of plane column row src) centre limit).mv
diamond_any_version version plane column row src centre limit bytes =
    let good = diamond_good (cost_of plane column row src) centre limit in
    good.measured ∙ whole_any_version Sixtap (filter_set_of version) plane column row src _ bytes (whole_copied _ good.grid)

-- 23 comes first: of a plane without a size, of one without a byte, of a macroblock and a vector far outside
abbrev far : Mv
far = record { row = pos 1025; col = pos 1 }

abbrev asked : Plane → Outcome ℕ × Outcome ℕ
asked p = (first_of (any_sad_lines 3 p 1024 1024 far) 0, first_of (refine_lines 3 4 p 1024 1024 far) 0)

pub before_8 : asked (luma_plane [] 0 0 0) ≡ (refused 23 [], refused 23 [])
before_8 = refl

pub before_9 : asked (luma_plane [] 1 1 1) ≡ (refused 23 [], refused 23 [])
before_9 = refl

pub before_10 : asked (luma_plane (0 ∷ []) 1 1 1) ≡ (refused 23 [], refused 23 [])
before_10 = refl

-- and is the number of its case
pub bad_version_is_23 : (sad_outcome (Err search.BadVersion) ≡ refused 23 []) × (search_outcome (Err search.BadVersion) ≡ refused 23 [])
bad_version_is_23 = (refl, refl)
