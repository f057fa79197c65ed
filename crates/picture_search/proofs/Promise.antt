-- From the checks' answer and what the loop leaves to what the call promises. Assumes nothing.
use Rattle.std.specs.Prelude.{◌≡◌, List, [], ℕ, ◌≤◌, Result, Ok}
use Rattle.std.proofs.Common.{sym, ap, ◌∙◌, arith}
use Rattle.laws.specs.Front.{front}
use Rattle.laws.proofs.Front.{after-accepted, after-refused}
use Rattle.laws.specs.Outcome.{Outcome, refused, accepted}
use Rattle.laws.proofs.Outcome.{skipped, answered}
use Rattle.search.specs.declared.picture.SearchedMb.{SearchedMb}
use Rattle.search.specs.declared.picture.PictureRefusal.{PictureRefusal}
use Rattle.search.specs.declared.picture.PictureRefusal.TheVariants.{BadSize, ShortPlane, ShortSource, ShortList, BadVersion}
use Rattle.search.specs.Picture.{mb_count, Lists, picture_lines, picture_expected, picture_refusal, picture_outcome, PictureIs}
use Rattle.search.proofs.Raster.{mb_count_lem}
use Rattle.picture_search.specs.declared.Planes.{Planes}
use Rattle.picture_search.specs.Internal.{reference_of, source_of, Filled}

-- where the outcome is known and the loop has filled the fronts, the lists are as promised
pub filled_as : {A : Type 0} (expected : Outcome A) (x : A) (m n : ℕ) (at : ℕ → SearchedMb) (l held : Lists) → expected ≡ accepted x → n ≡ m → Filled n at l held
    → PictureIs expected m at (accepted x) l held
filled_as expected x m n at l held found count h =
    record {
      answer = sym found;
      rows = h.rows ∙ ap (λ (k : ℕ). front k (λ i. (at i).mv.row) l.rows) count ∙ sym (after-accepted l.rows _ found);
      cols = h.cols ∙ ap (λ (k : ℕ). front k (λ i. (at i).mv.col) l.cols) count ∙ sym (after-accepted l.cols _ found);
      sads = h.sads ∙ ap (λ (k : ℕ). front k (λ i. (at i).sad) l.sads) count ∙ sym (after-accepted l.sads _ found);
    }

-- a picture that is searched has few macroblocks
pub few : (version : ℕ) (p : Planes) (l : Lists) (r : Result ℕ PictureRefusal) (n : ℕ)
    → picture_outcome r ≡ picture_expected version (reference_of p) (source_of p) l → r ≡ Ok n → n ≤ 1048576
few version p l r n e f =
    let found = sym e ∙ ap picture_outcome f in
    let lines = picture_lines version (reference_of p) (source_of p) l in
    let none = skipped lines (mb_count (reference_of p)) n found in
    omega (arith, answered lines (mb_count (reference_of p)) n found, (mb_count_lem (reference_of p) none.1.0).1)

-- on a refusal the lists are what they were
pub kept_at : {A : Type 0} (expected : Outcome A) (n : ℕ) (at : ℕ → SearchedMb) (l : Lists) (k : ℕ) (v : List ℕ) → refused k v ≡ expected → PictureIs expected n at (refused k v) l l
kept_at expected n at l k v e =
    record {
      answer = e;
      rows = sym (after-refused l.rows _ (sym e));
      cols = sym (after-refused l.cols _ (sym e));
      sads = sym (after-refused l.sads _ (sym e));
    }

pub kept_is : {A : Type 0} (expected : Outcome A) (n : ℕ) (at : ℕ → SearchedMb) (l : Lists) (r : PictureRefusal) → picture_refusal r ≡ expected
    → PictureIs expected n at (picture_refusal r) l l
kept_is expected n at l BadSize e = kept_at expected n at l 8 [] e
kept_is expected n at l ShortPlane e = kept_at expected n at l 9 [] e
kept_is expected n at l ShortSource e = kept_at expected n at l 14 [] e
kept_is expected n at l ShortList e = kept_at expected n at l 15 [] e
kept_is expected n at l BadVersion e = kept_at expected n at l 23 [] e
