-- Laws of a picture's search within an allowance: the grants and the account of its comparisons, and which allowances give what a round
-- limit gives. Assumes nothing.
use Rattle.std.proofs.Common.{◌≡◌, refl, sym, ap, ◌∙◌, [], ◌∷◌, ℕ, suc, ◌+◌, ◌-◌, ◌*◌, ◌/◌, ◌%◌, ◌≤◌, ◌<◌, arith, ltb-false, pos, get_or, replicate}
use Rattle.laws.proofs.Front.{front_same, after-accepted}
use Rattle.laws.specs.Outcome.{Outcome, refused, accepted, first_of}
use Rattle.laws.proofs.Outcome.{Skipped, skipped, answered}
use Rattle.prediction.specs.declared.motion_vector.Mv.{Mv}
use Rattle.prediction.specs.Plane.{Plane, luma_plane}
use Rattle.prediction.specs.Filter.{FilterRows, rows_for}
use Rattle.search.specs.declared.picture.SearchedMb.{SearchedMb}
use Rattle.search.specs.declared.allowance.PictureWork.{PictureWork}
use Rattle.search.specs.Picture.{mb_columns, mb_count, zero_mv, searched_mb, picture_at, Lists, lists, picture_lines, picture_expected, PictureSearched}
use Rattle.search.specs.Allowance.{rounds_for, remains, grant_at, picture_made, allowed_at, work_of, allowance_lines, allowance_expected, AllowanceIs}
use Rattle.search.proofs.Accepted.{also_accepted}
use Rattle.search.proofs.SadLaws.{cost_most}
use Rattle.search.proofs.Descent.{sads-most, rounds-limit}
use Rattle.search.proofs.Rounds.{sads-least, limits_alike}
use Rattle.search.proofs.Raster.{block-byte}
use Rattle.search.proofs.Sharing.{Keeps, last_grant, only_grant, grant_19, grant_rises, grant_least, grant_holds, made_granted, unspent_passed_on, spent-most, spent-least, starved_grant}

-- a macroblock, over any costs: a diamond of at most (g - 19) / 4 rounds and the refinements make at most g comparisons, and at least 19
module _ (whole_cost cost : Mv → ℕ) where
  pub made-within : (g : ℕ) → 19 ≤ g → (searched_mb whole_cost cost (rounds_for g)).sads ≤ g
  unfolding searched_mb
  made-within g h = omega (arith, sads-most whole_cost zero_mv (rounds_for g), rounds-limit whole_cost zero_mv (rounds_for g))

  pub made-least : (limit : ℕ) → 19 ≤ (searched_mb whole_cost cost limit).sads
  unfolding searched_mb
  made-least limit = omega (arith, sads-least whole_cost zero_mv limit)

  -- limits of 65281 or more are all alike
  limits_same : whole_cost zero_mv ≤ 65280 → (n m : ℕ) → 65281 ≤ n → 65281 ≤ m → searched_mb whole_cost cost n ≡ searched_mb whole_cost cost m
  unfolding searched_mb
  limits_same most n m h l = rw (limits_alike whole_cost zero_mv n m (omega arith) (omega arith)) refl

-- so the search of a picture keeps within its grants
pub picture_keeps : (set : FilterRows) (plane source : Plane) → Keeps (picture_made set plane source)
unfolding picture_at
picture_keeps set plane source = record { least = λ i limit. made-least _ _ limit; within = λ i g h. made-within _ _ g h }

picture_limits : (set : FilterRows) (plane source : Plane) → ((k : ℕ) → get_or source.bytes k 0 < 256) → (n m i : ℕ) → 65281 ≤ n → 65281 ≤ m
    → picture_at set plane source n i ≡ picture_at set plane source m i
unfolding picture_at
picture_limits set plane source bytes n m i h l =
    limits_same _ _ (cost_most plane _ _ _ zero_mv (block-byte source (i % mb_columns plane) (i / mb_columns plane) bytes)) n m h l

-- an accepted call
module _ (version allowance : ℕ) (plane source : Plane) (outcome : Outcome PictureWork) (old held : Lists) (w : PictureWork)
    (is : AllowanceIs version allowance plane source outcome old held) (done : outcome ≡ accepted w) where
  found : allowance_expected version plane source allowance old ≡ accepted w
  found = sym is.answer ∙ done

  none_applies : Skipped (allowance_lines version plane source allowance old)
  none_applies = skipped (allowance_lines version plane source allowance old) (work_of (rows_for version) plane source allowance) w found

  -- the numbers given are the definition's
  pub reported : w ≡ work_of (rows_for version) plane source allowance
  reported = sym (answered (allowance_lines version plane source allowance old) (work_of (rows_for version) plane source allowance) w found)

  abbrev n : ℕ
  n = mb_count plane

  abbrev made : ℕ → ℕ → ℕ
  made = picture_made (rows_for version) plane source

  keeps : Keeps made
  keeps = picture_keeps (rows_for version) plane source

  -- 30 does not apply
  enough : 19 * n ≤ allowance
  enough = ltb-false allowance (19 * n) none_applies.1.1.1.1.1.0

  -- the comparisons reported are at most the allowance, and at least 19 for each macroblock
  pub reported_most : w.comparisons ≤ allowance
  reported_most = rw reported (spent-most made allowance n keeps enough)

  pub reported_least : 19 * w.macroblocks ≤ w.comparisons
  reported_least = rw reported (spent-least made allowance n keeps enough)

  -- an allowance of 19 for each is used up
  pub starved_count : allowance ≡ 19 * w.macroblocks → w.comparisons ≡ allowance
  starved_count bare = omega (arith, reported_most, reported_least)

  -- macroblock i: its grant, and what it makes
  pub record Granted (i : ℕ) : Type 0 where
    pub least : allowance / n ≤ grant_at made allowance n i
    pub enough : 19 ≤ grant_at made allowance n i
    pub rises : suc i < n → grant_at made allowance n i ≤ grant_at made allowance n (suc i)
    pub last : suc i ≡ n → grant_at made allowance n i ≡ remains made allowance n i
    pub within : (allowed_at (rows_for version) plane source allowance i).sads ≤ grant_at made allowance n i
    pub some : 19 ≤ (allowed_at (rows_for version) plane source allowance i).sads
    pub passed_on : remains made allowance n (suc i) + (allowed_at (rows_for version) plane source allowance i).sads ≡ remains made allowance n i

  pub granted : (i : ℕ) → i < n → Granted i
  unfolding allowed_at
  granted i h =
      record {
        least = grant_least made allowance n keeps enough i h;
        enough = grant_19 made allowance n keeps enough i h;
        rises = grant_rises made allowance n keeps enough i;
        last = last_grant made allowance n i;
        within = made_granted made allowance n keeps enough i h;
        some = keeps.least i _;
        passed_on = unspent_passed_on made allowance n keeps enough i h;
      }

  -- where every macroblock is searched as within a limit, the lists are what `search_picture_luma` promises of that limit
  as_limit : (limit : ℕ) → ((i : ℕ) → i < n → allowed_at (rows_for version) plane source allowance i ≡ picture_at (rows_for version) plane source limit i)
      → PictureSearched version limit plane source (accepted n) old held
  as_limit limit same =
      let s = none_applies in
      let e : accepted n ≡ picture_expected version plane source old = also_accepted (picture_lines version plane source old) n (s.0, (s.1.0, (s.1.1.0, (s.1.1.1.0, (s.1.1.1.1.0, tt))))) in
      record {
        answer = e;
        rows = is.rows ∙ after-accepted old.rows _ found ∙ front_same n _ _ old.rows (λ i h. ap (λ (m : SearchedMb). m.mv.row) (same i h)) ∙ sym (after-accepted old.rows _ (sym e));
        cols = is.cols ∙ after-accepted old.cols _ found ∙ front_same n _ _ old.cols (λ i h. ap (λ (m : SearchedMb). m.mv.col) (same i h)) ∙ sym (after-accepted old.cols _ (sym e));
        sads = is.sads ∙ after-accepted old.sads _ found ∙ front_same n _ _ old.sads (λ i h. ap (λ (m : SearchedMb). m.sad) (same i h)) ∙ sym (after-accepted old.sads _ (sym e));
      }

  -- with at least 261143 for each macroblock: any limit of 65281 or more
  pub plenty : ((k : ℕ) → get_or source.bytes k 0 < 256) → 261143 * n ≤ allowance → (limit : ℕ) → 65281 ≤ limit
      → PictureSearched version limit plane source (accepted n) old held
  unfolding allowed_at
  plenty bytes most limit h =
      as_limit limit (λ i l. picture_limits (rows_for version) plane source bytes _ limit i (omega (arith, grant_holds made allowance n keeps enough 261143 i most l)) h)

  -- with 19 for each: limit 0
  pub starved : allowance ≡ 19 * n → PictureSearched version 0 plane source (accepted n) old held
  unfolding allowed_at
  starved bare =
      as_limit 0 (λ i l. ap (λ (g : ℕ). picture_at (rows_for version) plane source (rounds_for g) i) (starved_grant made allowance n keeps bare i l))

  -- one macroblock: limit (T - 19) / 4
  pub one-macroblock : n ≡ 1 → PictureSearched version ((allowance - 19) / 4) plane source (accepted n) old held
  unfolding allowed_at
  one-macroblock one = as_limit ((allowance - 19) / 4) (λ i l. go i (omega arith))
    where
      go : (i : ℕ) → i ≡ 0 → allowed_at (rows_for version) plane source allowance i ≡ picture_at (rows_for version) plane source ((allowance - 19) / 4) i
      go i e = rw e (ap (λ (g : ℕ). picture_at (rows_for version) plane source (rounds_for g) 0) (only_grant made allowance n one))

-- the order of the lines: in each of the first rows 30 applies with another line, which is given; then 30 alone, at its edge
abbrev by : ℕ → Plane → Plane → ℕ → Lists → Outcome ℕ
by version plane source allowance l = first_of (allowance_lines version plane source allowance l) 7

abbrev empty : Lists
empty = lists [] [] []

abbrev one : Lists
one = lists (pos 7 ∷ []) (pos 7 ∷ []) (7 ∷ [])

abbrev two : Lists
two = lists (pos 7 ∷ pos 7 ∷ []) (pos 7 ∷ pos 7 ∷ []) (7 ∷ 7 ∷ [])

-- one macroblock, and two
abbrev small : Plane
small = luma_plane (0 ∷ []) 1 1 1

abbrev wide : Plane
wide = luma_plane (replicate 17 0) 0 17 1

pub lines : (
    (by 3 small small 18 one ≡ refused 23 [])
    × (by 2 (luma_plane [] 1 17 0) small 18 one ≡ refused 8 [])
    × (by 2 (luma_plane [] 1 1 1) small 18 one ≡ refused 9 [])
    × (by 2 small (luma_plane [] 1 1 1) 18 one ≡ refused 14 [])
    × (by 2 small small 18 empty ≡ refused 15 [])
    × (by 2 small small 18 one ≡ refused 30 [])
    × (by 2 small small 19 one ≡ accepted 7)
    × (by 2 wide wide 37 one ≡ refused 15 [])
    × (by 2 wide wide 37 two ≡ refused 30 [])
    × (by 2 wide wide 38 two ≡ accepted 7)
    )
lines = (refl, refl, refl, refl, refl, refl, refl, refl, refl, refl)
