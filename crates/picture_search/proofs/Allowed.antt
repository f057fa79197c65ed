-- The search within an allowance: a turn of its loop, and from the checks' answer and what the loop leaves to what the call promises.
-- Assumes nothing.
use Rattle.std.specs.Prelude.{◌≡◌, List, [], ◌∷◌, ℕ, ◌+◌, ◌-◌, ◌*◌, ◌≤◌, ◌<◌, Result, Ok, Err}
use Rattle.std.specs.Result.{IsErrAnd}
use Rattle.std.proofs.Common.{refl, sym, ap, ◌∙◌, add-one, arith}
use Rattle.laws.specs.Outcome.{refused, Line, line}
use Rattle.laws.proofs.Outcome.{refused-first}
use Rattle.prediction.specs.Plane.{Plane}
use Rattle.prediction.specs.Filter.{FilterRows, rows_for}
use Rattle.search.specs.declared.picture.SearchedMb.{SearchedMb}
use Rattle.search.specs.declared.picture.PictureRefusal.{PictureRefusal}
use Rattle.search.specs.declared.picture.PictureRefusal.TheVariants.{BadSize, ShortPlane, ShortSource, ShortList, BadVersion}
use Rattle.search.specs.declared.allowance.PictureWork.{PictureWork}
use Rattle.search.specs.declared.allowance.AllowanceRefusal.{AllowanceRefusal}
use Rattle.search.specs.declared.allowance.AllowanceRefusal.TheVariants.{Picture}
use Rattle.search.specs.Picture.{mb_count, picture_at, Lists, picture_lines, picture_expected, picture_refusal}
use Rattle.search.specs.Allowance.{grant_of, rounds_for, remains, grant_at, spent, picture_made, allowed_at, work_of, low_allowance, allowance_outcome, AllowanceIs}
use Rattle.search.proofs.Sharing.{grant_19, made-remains, account}
use Rattle.search.proofs.Allowances.{picture_keeps}
use Rattle.picture_search.proofs.Promise.{kept_at}

-- before macroblock i of n what remains is known
module _ (set : FilterRows) (plane source : Plane) (allowance n i r : ℕ) (count : n ≡ mb_count plane)
    (kept : r ≡ remains (picture_made set plane source) allowance (mb_count plane) i) where
  abbrev made : ℕ → ℕ → ℕ
  made = picture_made set plane source

  granted : grant_of r (n - i) ≡ grant_at made allowance (mb_count plane) i
  granted = rw (kept, count) refl

  -- the grant is enough for the start and the refinements
  pub enough_granted : 19 * n ≤ allowance → i < n → 19 ≤ grant_of r (n - i)
  enough_granted e h = rw granted (grant_19 made allowance (mb_count plane) (picture_keeps set plane source) (rw (sym count) e) i (rw (sym count) h))

  module _ (rounds : ℕ) (found : SearchedMb) (allowed : rounds ≡ rounds_for (grant_of r (n - i))) (is : found ≡ picture_at set plane source rounds i) where
    -- the search is the one allowed
    pub found_is : found ≡ allowed_at set plane source allowance i
    unfolding allowed_at
    found_is = is ∙ ap (λ (k : ℕ). picture_at set plane source k i) (allowed ∙ ap rounds_for granted)

    -- its comparisons are there
    pub sads_remain : 19 * n ≤ allowance → i < n → found.sads ≤ r
    unfolding allowed_at
    sads_remain e h =
        let m = made-remains made allowance (mb_count plane) (picture_keeps set plane source) (rw (sym count) e) i (rw (sym count) h) in
        omega (arith, ap (λ (s : SearchedMb). s.sads) found_is, kept)

    -- and what remains falls by them
    pub remains-less : r - found.sads ≡ remains made allowance (mb_count plane) (i + 1)
    unfolding remains allowed_at
    remains-less = rw (add-one i) (omega (arith, ap (λ (s : SearchedMb). s.sads) found_is, kept))

  -- at the end: what was made is what does not remain
  module _ (e : 19 * n ≤ allowance) (low : i ≤ n) (end : n ≤ i) where
    whole : r + spent made allowance n ≡ allowance
    whole =
        let i_is : i ≡ mb_count plane = omega (arith, count) in
        let a = account made allowance (mb_count plane) (picture_keeps set plane source) (rw (sym count) e) (mb_count plane) (omega arith) in
        rw (kept, i_is, count) a

    pub remains-most : r ≤ allowance
    remains-most = omega (arith, whole)

    pub spent_is : allowance - r ≡ spent made allowance n
    spent_is = omega (arith, whole)

-- what the call promises, by what the checks expect
module _ (version allowance : ℕ) (plane source : Plane) (l : Lists) where
  abbrev at : ℕ → SearchedMb
  at = allowed_at (rows_for version) plane source allowance

  abbrev only_30 : List Line
  only_30 = line 30 (low_allowance allowance (mb_count plane)) [] ∷ []

  abbrev work : PictureWork
  work = work_of (rows_for version) plane source allowance

  -- a refusal of theirs is the call's
  refusal_is : (k : ℕ) (v : List ℕ) → refused k v ≡ picture_expected version plane source l → AllowanceIs version allowance plane source (refused k v) l l
  refusal_is k v e = kept_at _ (mb_count plane) at l k v (sym (refused-first (picture_lines version plane source l) only_30 (mb_count plane) work k v (sym e)))

  refused_is : (r : PictureRefusal) → picture_refusal r ≡ picture_expected version plane source l
      → AllowanceIs version allowance plane source (picture_refusal r) l l
  refused_is BadSize e = refusal_is 8 [] e
  refused_is ShortPlane e = refusal_is 9 [] e
  refused_is ShortSource e = refusal_is 14 [] e
  refused_is ShortList e = refusal_is 15 [] e
  refused_is BadVersion e = refusal_is 23 [] e

  pub handed_on : (r : Result PictureWork AllowanceRefusal) (x : PictureRefusal) → IsErrAnd r (λ e. e ≡ Picture x)
      → picture_refusal x ≡ picture_expected version plane source l → AllowanceIs version allowance plane source (allowance_outcome r) l l
  handed_on (Err e) x g h = rw g (refused_is x h)
  handed_on (Ok w) x g h = absurd g
