-- The whole-picture search of document 02's request 1: the macroblocks, the search of each, the refusals, and what the call promises.
-- Assumes nothing.
use Rattle.std.specs.Prelude.{◌≡◌, Bool, ◌||◌, List, [], ◌∷◌, ◌++◌, ℕ, ◌+◌, ◌*◌, ◌/◌, ◌%◌, ltb, ℤ, pos, length, Result}
use Rattle.laws.specs.Front.{front}
use Rattle.laws.specs.Outcome.{Outcome, refused, Line, line, first_of, after, result_outcome}
use Rattle.prediction.specs.declared.motion_vector.Mv.{Mv}
use Rattle.prediction.specs.Plane.{Plane, sample_at, moved_by}
use Rattle.prediction.specs.Filter.{FilterRows, rows_for}
use Rattle.prediction.specs.Prediction.{macroblock_of}
use Rattle.prediction.specs.Refusals.{bad_size, short_plane, version_lines}
use Rattle.search.specs.declared.DiamondResult.{DiamondResult}
use Rattle.search.specs.declared.SearchResult.{SearchResult}
use Rattle.search.specs.declared.picture.SearchedMb.{SearchedMb}
use Rattle.search.specs.declared.picture.PictureRefusal.{PictureRefusal}
use Rattle.search.specs.declared.picture.PictureRefusal.TheVariants.{BadSize, ShortPlane, ShortSource, ShortList, BadVersion}
use Rattle.search.specs.Sad.{cost_in, cost_of}
use Rattle.search.specs.Search.{diamond, refine}

-- the macroblocks across and down a plane, those cut by an edge included, and their count
abbrev pub mb_columns : Plane → ℕ
mb_columns p = (p.columns + 15) / 16

abbrev pub mb_rows : Plane → ℕ
mb_rows p = (p.rows + 15) / 16

abbrev pub mb_count : Plane → ℕ
mb_count p = mb_columns p * mb_rows p

-- the samples of the macroblock at a column and a row of a plane, whose edge samples repeat
unfoldable pub source_block : Plane → ℕ → ℕ → List ℕ
source_block p column row = macroblock_of (moved_by (pos (16 * column)) (pos (16 * row)) (sample_at p))

abbrev pub zero_mv : Mv
zero_mv = record { row = pos 0; col = pos 0 }

-- the three searches of a macroblock, over any two costs: the diamond from the zero vector by the first, then by the second the half
-- refinement of its vector and the quarter refinement of that
abbrev pub whole_found : (Mv → ℕ) → ℕ → DiamondResult
whole_found whole_cost limit = diamond whole_cost zero_mv limit

abbrev pub half_found : (Mv → ℕ) → (Mv → ℕ) → ℕ → SearchResult
half_found whole_cost cost limit = refine cost 2 (whole_found whole_cost limit).mv

abbrev pub last_found : (Mv → ℕ) → (Mv → ℕ) → ℕ → SearchResult
last_found whole_cost cost limit = refine cost 1 (half_found whole_cost cost limit).mv

-- the last one's answer, and how many SADs all took: the diamond's, then 9 and 9, since each refinement measures its centre again
unfoldable pub searched_mb : (Mv → ℕ) → (Mv → ℕ) → ℕ → SearchedMb
searched_mb whole_cost cost limit =
    record { mv = (last_found whole_cost cost limit).mv; sad = (last_found whole_cost cost limit).sad; sads = (whole_found whole_cost limit).sads + (9 + 9) }

-- the search of the macroblock at a column and a row, by the rows of a filter set
abbrev pub searched_at : FilterRows → Plane → Plane → ℕ → ℕ → ℕ → SearchedMb
searched_at set plane source limit column row =
    searched_mb (cost_of plane column row (source_block source column row)) (cost_in set plane column row (source_block source column row)) limit

-- of macroblock i in raster order
unfoldable pub picture_at : FilterRows → Plane → Plane → ℕ → ℕ → SearchedMb
picture_at set plane source limit i = searched_at set plane source limit (i % mb_columns plane) (i / mb_columns plane)

-- the three lent lists
pub record Lists : Type 0 where
  pub rows : List ℤ
  pub cols : List ℤ
  pub sads : List ℕ

abbrev pub lists : List ℤ → List ℤ → List ℕ → Lists
lists rows cols sads = record { rows = rows; cols = cols; sads = sads }

-- 14. The test of 9, of the source and its own stride
abbrev pub short_source : Plane → Bool
short_source source = short_plane source

-- 15. A list is shorter than n
abbrev pub short_list : ℕ → Lists → Bool
short_list n l = ltb (length l.rows) n || (ltb (length l.cols) n || ltb (length l.sads) n)

-- 23, 8, 9, 14, 15
abbrev pub picture_lines : ℕ → Plane → Plane → Lists → List Line
picture_lines version plane source l =
    version_lines version
    ++ (line 8 (bad_size plane) [] ∷ line 9 (short_plane plane) [] ∷ line 14 (short_source source) [] ∷ line 15 (short_list (mb_count plane) l) [] ∷ [])

-- what is expected: the first refusal that applies, or the count
abbrev pub picture_expected : ℕ → Plane → Plane → Lists → Outcome ℕ
picture_expected version plane source l = first_of (picture_lines version plane source l) (mb_count plane)

-- the number of each refusal
abbrev pub picture_refusal : {A : Type 0} → PictureRefusal → Outcome A
picture_refusal BadSize = refused 8 []
picture_refusal ShortPlane = refused 9 []
picture_refusal ShortSource = refused 14 []
picture_refusal ShortList = refused 15 []
picture_refusal BadVersion = refused 23 []

-- the outcome of a result
abbrev pub picture_outcome : Result ℕ PictureRefusal → Outcome ℕ
picture_outcome = result_outcome picture_refusal

-- what a search of n macroblocks promises, by the outcome expected and the search of each: the outcome, and the lists at exit, where entry
-- i is macroblock i's and those from n on are unchanged; on a refusal all are
pub record PictureIs {A : Type 0} (expected : Outcome A) (n : ℕ) (at : ℕ → SearchedMb) (outcome : Outcome A) (old held : Lists) : Type 0 where
  pub answer : outcome ≡ expected
  pub rows : held.rows ≡ after expected old.rows (front n (λ i. (at i).mv.row) old.rows)
  pub cols : held.cols ≡ after expected old.cols (front n (λ i. (at i).mv.col) old.cols)
  pub sads : held.sads ≡ after expected old.sads (front n (λ i. (at i).sad) old.sads)

-- what `search_picture_luma` promises, by the version, the limit and the two planes
abbrev pub PictureSearched : ℕ → ℕ → Plane → Plane → Outcome ℕ → Lists → Lists → Type 0
PictureSearched version limit plane source outcome old held =
    PictureIs (picture_expected version plane source old) (mb_count plane) (picture_at (rows_for version) plane source limit) outcome old held
