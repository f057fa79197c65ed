-- Outcomes as the numbers that C gets, one definition for each result: refusal 0 with the answer, or the refusal's number with its values.
-- All other numbers are 0. Assumes nothing.
use Rattle.std.specs.Prelude.{◌≡◌, Bool, true, false, cond, List, ℕ, eqb, get_or, ℤ, pos, ⊤}
use Rattle.laws.specs.Outcome.{Outcome, refused, accepted, Line, first_of, after}
use Rattle.prediction.specs.declared.motion_vector.Mv.{Mv}
use Rattle.prediction.specs.Plane.{Plane}
use Rattle.prediction.specs.declared.ceiling.Ceiled as measured
use Rattle.prediction.specs.declared.motion_comp.FilterSet.{FilterSet}
use Rattle.prediction.specs.declared.motion_comp.FilterSet.TheVariants.{Sixtap, Bilinear}
use Rattle.search.specs.declared.SearchResult.{SearchResult}
use Rattle.search.specs.declared.DiamondResult.{DiamondResult}
use Rattle.search.specs.declared.PlaceRefusal.{PlaceRefusal}
use Rattle.search.specs.declared.SearchRefusal.{SearchRefusal}
use Rattle.search.specs.declared.picture.PictureRefusal.{PictureRefusal}
use Rattle.search.specs.declared.allowance.AllowanceRefusal.{AllowanceRefusal}
use Rattle.search.specs.declared.allowance.PictureWork.{PictureWork}
use Rattle.search.specs.Refusals.{place_refusal, search_refusal}
use Rattle.search.specs.Picture.{Lists, picture_expected, picture_refusal, PictureSearched}
use Rattle.search.specs.Allowance.{allowance_expected, allowance_refusal, AllowanceIs}
use Rattle.window.specs.declared.Size.{Size}
use Rattle.denoiser.specs.declared.Built.{Built}
use Rattle.numbers.specs.declared.answers.Status.{Status}
use Rattle.numbers.specs.declared.answers.Sample.{Sample}
use Rattle.numbers.specs.declared.answers.Vector.{Vector}
use Rattle.numbers.specs.declared.answers.Sad.{Sad}
use Rattle.numbers.specs.declared.answers.Ceiled.{Ceiled}
use Rattle.numbers.specs.declared.answers.Search.{Search}
use Rattle.numbers.specs.declared.answers.Diamond.{Diamond}
use Rattle.numbers.specs.declared.answers.Picture.{Picture}
use Rattle.numbers.specs.declared.answers.Allowed.{Allowed}
use Rattle.numbers.specs.declared.answers.Build.{Build}

-- a truth value: 1 or 0
abbrev pub bit : Bool → ℕ
bit true = 1
bit false = 0

-- a filter set: 0 is six-tap, 1 bilinear
abbrev pub filter_number : FilterSet → ℕ
filter_number Sixtap = 0
filter_number Bilinear = 1

-- a vector that C passes as two numbers
abbrev pub mv_of : ℤ → ℤ → Mv
mv_of row col = record { row = row; col = col }

-- the refusal's number, 0 where the call is accepted
abbrev pub number_of : {A : Type 0} → Outcome A → ℕ
number_of (accepted a) = 0
number_of (refused k values) = k

-- the number of each refusal
abbrev pub place_number : PlaceRefusal → ℕ
place_number r = number_of (place_refusal {A = ⊤} r)

abbrev pub search_number : SearchRefusal → ℕ
search_number r = number_of (search_refusal {A = ⊤} r)

abbrev pub picture_number : PictureRefusal → ℕ
picture_number r = number_of (picture_refusal {A = ⊤} r)

abbrev pub allowance_number : AllowanceRefusal → ℕ
allowance_number r = number_of (allowance_refusal {A = ⊤} r)

abbrev pub status_numbers : {A : Type 0} → Outcome A → Status
status_numbers o = record { refusal = number_of o }

abbrev pub sample_numbers : Outcome ℕ → Sample
sample_numbers (accepted s) = record { refusal = 0; sample = s }
sample_numbers (refused k values) = record { refusal = k; sample = 0 }

-- a vector is never refused
abbrev pub vector_numbers : Mv → Vector
vector_numbers v = record { refusal = 0; row = v.row; col = v.col }

abbrev pub sad_numbers : Outcome ℕ → Sad
sad_numbers (accepted n) = record { refusal = 0; sad = n }
sad_numbers (refused k values) = record { refusal = k; sad = 0 }

-- a SAD up to a ceiling is never refused
abbrev pub ceiled_numbers : measured.Ceiled → Ceiled
ceiled_numbers r = record { refusal = 0; sad = r.sad; rows = r.rows }

abbrev pub search_numbers : Outcome SearchResult → Search
search_numbers (accepted b) = record { refusal = 0; row = b.mv.row; col = b.mv.col; sad = b.sad }
search_numbers (refused k values) = record { refusal = k; row = pos 0; col = pos 0; sad = 0 }

abbrev pub diamond_numbers : Outcome DiamondResult → Diamond
diamond_numbers (accepted b) = record { refusal = 0; row = b.mv.row; col = b.mv.col; sad = b.sad; sads = b.sads; rounds = b.rounds }
diamond_numbers (refused k values) = record { refusal = k; row = pos 0; col = pos 0; sad = 0; sads = 0; rounds = 0 }

abbrev pub picture_numbers : Outcome ℕ → Picture
picture_numbers (accepted n) = record { refusal = 0; macroblocks = n }
picture_numbers (refused k values) = record { refusal = k; macroblocks = 0 }

abbrev pub allowed_numbers : Outcome PictureWork → Allowed
allowed_numbers (accepted w) = record { refusal = 0; macroblocks = w.macroblocks; comparisons = w.comparisons }
allowed_numbers (refused k values) = record { refusal = k; macroblocks = 0; comparisons = 0 }

-- a build's numbers in order: refusal, width, height, accepted, other width, other height, frame
abbrev pub build : ℕ → ℕ → ℕ → ℕ → ℕ → ℕ → ℕ → Build
build k w h a ow oh g = record { refusal = k; width = w; height = h; accepted = a; other_width = ow; other_height = oh; frame = g }

-- the values v of refusal k: 3 has a size, 4 a frame's size and then the centre's, 29 and 5 a frame; the others have none
abbrev pub build_refused : ℕ → List ℕ → Build
build_refused k v =
    cond (eqb k 3) (build k (get_or v 0 0) (get_or v 1 0) 0 0 0 0)
    (cond (eqb k 4) (build k (get_or v 2 0) (get_or v 3 0) 0 (get_or v 0 0) (get_or v 1 0) 0)
    (cond (eqb k 29) (build k 0 0 0 0 0 (get_or v 0 0))
    (cond (eqb k 5) (build k 0 0 0 0 0 (get_or v 0 0))
    (build k 0 0 0 0 0 0))))

abbrev pub build_numbers : Outcome Built → Build
build_numbers (accepted b) = build 0 b.width b.height b.accepted 0 0 0
build_numbers (refused k values) = build_refused k values

-- the checks alone accept no blocks
abbrev pub check_numbers : Outcome Size → Build
check_numbers (accepted s) = build 0 s.width s.height 0 0 0 0
check_numbers (refused k values) = build_refused k values

-- a call that fills an array, by its refusals and the block: the status, and the array at exit, unchanged on a refusal
pub record Fills (lines : List Line) (block old : List ℕ) (r : Status) (held : List ℕ) : Type 0 where
  pub status : r ≡ status_numbers (first_of lines block)
  pub array : held ≡ after (first_of lines block) old block

-- the search of a picture, by the version, the limit and the two planes: the numbers of what is expected, and the lists at exit
pub record Searches (version limit : ℕ) (plane source : Plane) (r : Picture) (old new : Lists) : Type 0 where
  pub numbers : r ≡ picture_numbers (picture_expected version plane source old)
  pub held : PictureSearched version limit plane source (picture_expected version plane source old) old new

-- the search of a picture within an allowance, in the same way
pub record Allows (version allowance : ℕ) (plane source : Plane) (r : Allowed) (old new : Lists) : Type 0 where
  pub numbers : r ≡ allowed_numbers (allowance_expected version plane source allowance old)
  pub held : AllowanceIs version allowance plane source (allowance_expected version plane source allowance old) old new
