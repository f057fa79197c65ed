-- The checks' answer, carried to a measure: what they refuse is refused, and where they find nothing the measure counts. Assumes nothing.
use Rattle.std.specs.Prelude.{◌≡◌, List, [], ℕ, length, Result, Ok}
use Rattle.std.proofs.Common.{sym, ap, ◌∙◌}
use Rattle.laws.specs.Outcome.{accepted, Line, first_of, result_outcome}
use Rattle.laws.proofs.Outcome.{Skipped, skipped}
use Rattle.prediction.specs.declared.motion_vector.Mv.{Mv}
use Rattle.search.specs.declared.Site.{Site}
use Rattle.search.specs.declared.PlaceRefusal.{PlaceRefusal}
use Rattle.search.specs.declared.PlaceRefusal.TheVariants as place
use Rattle.search.specs.declared.SearchRefusal.{SearchRefusal}
use Rattle.search.specs.declared.SearchRefusal.TheVariants as search
use Rattle.search.specs.Refusals.{place_refusal, search_refusal, grid_lines, off_grid}
use Rattle.search.specs.Internal.{plane_of, Ready, Copied}
use Rattle.search.proofs.Accepted.{also_refused, also_accepted}
use Rattle.search.proofs.Grid.{measured-whole, whole_copied}

pub place-still-refused : {A B : Type 0} (ls : List Line) (x : A) (y : B) (p : PlaceRefusal) → place_refusal p ≡ first_of ls x → place_refusal p ≡ first_of ls y
place-still-refused ls x y place.BadSize e = also_refused ls x y 8 [] (sym e)
place-still-refused ls x y place.ShortPlane e = also_refused ls x y 9 [] (sym e)
place-still-refused ls x y place.BadMacroblock e = also_refused ls x y 10 [] (sym e)

pub still-refused : {A B : Type 0} (ls : List Line) (x : A) (y : B) (r : SearchRefusal) → search_refusal r ≡ first_of ls x → search_refusal r ≡ first_of ls y
still-refused ls x y (search.Place p) e = place-still-refused ls x y p e
still-refused ls x y search.OutOfRange e = also_refused ls x y 11 [] (sym e)
still-refused ls x y search.OffGrid e = also_refused ls x y 12 [] (sym e)
still-refused ls x y search.BadVersion e = also_refused ls x y 23 [] (sym e)

-- a macroblock's site by its numbers
abbrev pub site : (stride width height column row : ℕ) → Site
site stride width height column row = record { stride = stride; width = width; height = height; column = column; row = row }

-- where the checks find nothing
abbrev pub lines_of : ℕ → List ℕ → Site → Mv → List Line
lines_of n bytes s v = grid_lines n (plane_of bytes s) s.column s.row v

module _ {A : Type 0} (n : ℕ) (bytes : List ℕ) (s : Site) (v : Mv) (r : Result A SearchRefusal) (a k : A)
    (found : result_outcome search_refusal r ≡ first_of (lines_of n bytes s v) a) (none : r ≡ Ok k) where
  pub none_applies : Skipped (lines_of n bytes s v)
  none_applies = skipped (lines_of n bytes s v) a k (sym found ∙ ap (result_outcome search_refusal) none)

  pub ready : (src : List ℕ) → length src ≡ 256 → Ready bytes s src
  ready src h = record { size = none_applies.0; long = none_applies.1.0; place = none_applies.1.1.0; source = h }

  pub whole_here : n ≡ 4 → Copied v
  whole_here e =
      whole_copied v
      (measured-whole v none_applies.1.1.1.0 (ap (λ (i : ℕ). off_grid i v) (sym e) ∙ none_applies.1.1.1.1.0))

  pub counts : {B : Type 0} (x : B) → accepted x ≡ first_of (lines_of n bytes s v) x
  counts x = also_accepted (lines_of n bytes s v) x none_applies
