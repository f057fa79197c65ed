-- The comparison allowance of document 02's request 14: how it is shared out among the macroblocks, over any search of them; then by the
-- search of a picture, with the refusals and what the call promises. A comparison is one SAD computed. Assumes nothing.
use Rattle.std.specs.Prelude.{Bool, List, [], ◌∷◌, ◌++◌, ℕ, zero, suc, ◌+◌, ◌-◌, ◌*◌, ◌/◌, ltb, Result}
use Rattle.laws.specs.Sums.{sum_below}
use Rattle.laws.specs.Outcome.{Outcome, refused, Line, line, first_of, result_outcome}
use Rattle.prediction.specs.Plane.{Plane}
use Rattle.prediction.specs.Filter.{FilterRows, rows_for}
use Rattle.search.specs.declared.picture.SearchedMb.{SearchedMb}
use Rattle.search.specs.declared.allowance.PictureWork.{PictureWork}
use Rattle.search.specs.declared.allowance.AllowanceRefusal.{AllowanceRefusal}
use Rattle.search.specs.declared.allowance.AllowanceRefusal.TheVariants.{Picture, LowAllowance}
use Rattle.search.specs.Picture.{mb_count, picture_at, Lists, picture_lines, picture_refusal, PictureIs}

-- what every macroblock needs: the diamond's start and nine in each refinement, its centre included
abbrev pub fewest : ℕ
fewest = 1 + (9 + 9)

-- a grant: what remains, divided by the macroblocks left
abbrev pub grant_of : ℕ → ℕ → ℕ
grant_of remains left = remains / left

-- the rounds that the diamond gets from a grant, of which each makes at most four comparisons
abbrev pub rounds_for : ℕ → ℕ
rounds_for g = (g - fewest) / 4

-- Macroblock i, whose diamond gets so many rounds, makes `made i rounds` comparisons. Of M macroblocks M - i are left before i, itself
-- included. What remains of the allowance T before macroblock i is T less the comparisons made so far
unfoldable pub remains : (ℕ → ℕ → ℕ) → ℕ → ℕ → ℕ → ℕ
remains made T M zero = T
remains made T M (suc i) = remains made T M i - made i (rounds_for (grant_of (remains made T M i) (M - i)))

-- its grant
abbrev pub grant_at : (ℕ → ℕ → ℕ) → ℕ → ℕ → ℕ → ℕ
grant_at made T M i = grant_of (remains made T M i) (M - i)

-- and the comparisons that it makes
abbrev pub made_at : (ℕ → ℕ → ℕ) → ℕ → ℕ → ℕ → ℕ
made_at made T M i = made i (rounds_for (grant_at made T M i))

-- those of all
abbrev pub spent : (ℕ → ℕ → ℕ) → ℕ → ℕ → ℕ
spent made T M = sum_below (made_at made T M) M

-- in a picture: what the search of macroblock i makes within a round limit
abbrev pub picture_made : FilterRows → Plane → Plane → ℕ → ℕ → ℕ
picture_made set plane source i limit = (picture_at set plane source limit i).sads

-- the search of macroblock i within an allowance for the picture
unfoldable pub allowed_at : FilterRows → Plane → Plane → ℕ → ℕ → SearchedMb
allowed_at set plane source allowance i =
    picture_at set plane source (rounds_for (grant_at (picture_made set plane source) allowance (mb_count plane) i)) i

-- the count of macroblocks, and of the comparisons made for them
abbrev pub work_of : FilterRows → Plane → Plane → ℕ → PictureWork
work_of set plane source allowance =
    record { macroblocks = mb_count plane; comparisons = spent (picture_made set plane source) allowance (mb_count plane) }

-- 30. The allowance is below 19 times the macroblocks
abbrev pub low_allowance : ℕ → ℕ → Bool
low_allowance allowance n = ltb allowance (fewest * n)

-- 23, 8, 9, 14, 15, 30
abbrev pub allowance_lines : ℕ → Plane → Plane → ℕ → Lists → List Line
allowance_lines version plane source allowance l =
    picture_lines version plane source l ++ (line 30 (low_allowance allowance (mb_count plane)) [] ∷ [])

-- what is expected: the first refusal that applies, or the two counts
abbrev pub allowance_expected : ℕ → Plane → Plane → ℕ → Lists → Outcome PictureWork
allowance_expected version plane source allowance l =
    first_of (allowance_lines version plane source allowance l) (work_of (rows_for version) plane source allowance)

-- the number of each refusal
abbrev pub allowance_refusal : {A : Type 0} → AllowanceRefusal → Outcome A
allowance_refusal (Picture p) = picture_refusal p
allowance_refusal LowAllowance = refused 30 []

-- the outcome of a result
abbrev pub allowance_outcome : Result PictureWork AllowanceRefusal → Outcome PictureWork
allowance_outcome = result_outcome allowance_refusal

-- what `search_picture_luma_within` promises, by the version, the allowance and the two planes: fields `answer`, `rows`, `cols`, `sads`
abbrev pub AllowanceIs : ℕ → ℕ → Plane → Plane → Outcome PictureWork → Lists → Lists → Type 0
AllowanceIs version allowance plane source outcome old held =
    PictureIs (allowance_expected version plane source allowance old) (mb_count plane) (allowed_at (rows_for version) plane source allowance) outcome old held
