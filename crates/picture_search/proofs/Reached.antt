-- The searches of a macroblock of a legal picture are accepted: each has a value, which is the one found. Assumes nothing.
use Rattle.std.specs.Prelude.{◌≡◌, false, List, [], ℕ, Result, Ok, Err}
use Rattle.std.specs.Result.{IsOk}
use Rattle.std.proofs.Common.{refl, sym, ap, ◌∙◌, le-ltb}
use Rattle.laws.specs.Outcome.{accepted, first_of}
use Rattle.laws.proofs.Outcome.{accepted-same, never}
use Rattle.prediction.specs.declared.motion_vector.Mv.{Mv}
use Rattle.prediction.specs.Plane.{Plane}
use Rattle.prediction.specs.Filter.{rows_for}
use Rattle.search.specs.declared.DiamondResult.{DiamondResult}
use Rattle.search.specs.declared.SearchResult.{SearchResult}
use Rattle.search.specs.declared.PlaceRefusal.{PlaceRefusal}
use Rattle.search.specs.declared.PlaceRefusal.TheVariants as place
use Rattle.search.specs.declared.SearchRefusal.{SearchRefusal}
use Rattle.search.specs.declared.SearchRefusal.TheVariants as search
use Rattle.search.specs.Sad.{cost_in, cost_of}
use Rattle.search.specs.Search.{refine}
use Rattle.search.specs.Refusals.{bad_macroblock, out_of_range, off_grid, place_lines, refine_lines, diamond_outcome, search_outcome}
use Rattle.search.specs.Picture.{whole_found, half_found}
use Rattle.search.proofs.Pictures.{never_11, never_12, place-accepted, refine-accepted}
use Rattle.picture_search.specs.declared.Planes.{Planes}
use Rattle.picture_search.specs.Internal.{reference_of, Placed, Legal}

-- no refusal is accepted
pub diamond_only : (r : Result DiamondResult PlaceRefusal) (x : DiamondResult) → diamond_outcome r ≡ accepted x → r ≡ Ok x
diamond_only (Ok y) x e = ap Ok (accepted-same y x e)
diamond_only (Err place.BadSize) x e = absurd (never 8 [] x e)
diamond_only (Err place.ShortPlane) x e = absurd (never 9 [] x e)
diamond_only (Err place.BadMacroblock) x e = absurd (never 10 [] x e)

pub search_only : (r : Result SearchResult SearchRefusal) (x : SearchResult) → search_outcome r ≡ accepted x → r ≡ Ok x
search_only (Ok y) x e = ap Ok (accepted-same y x e)
search_only (Err (search.Place place.BadSize)) x e = absurd (never 8 [] x e)
search_only (Err (search.Place place.ShortPlane)) x e = absurd (never 9 [] x e)
search_only (Err (search.Place place.BadMacroblock)) x e = absurd (never 10 [] x e)
search_only (Err search.OutOfRange) x e = absurd (never 11 [] x e)
search_only (Err search.OffGrid) x e = absurd (never 12 [] x e)
search_only (Err search.BadVersion) x e = absurd (never 23 [] x e)

same_value : {A E : Type 0} (r : Result A E) (x y : A) → r ≡ Ok x → r ≡ Ok y → y ≡ x
same_value r x y e f = is (sym f ∙ e)
  where
    is : {A E : Type 0} {x y : A} → ◌≡◌ {A = Result A E} (Ok y) (Ok x) → y ≡ x
    is e = cc

-- the diamond
pub whole_is : (plane : Plane) (column row : ℕ) → Placed plane column row → (r : Result DiamondResult PlaceRefusal) (x w : DiamondResult)
    → diamond_outcome r ≡ first_of (place_lines plane column row) x → r ≡ Ok w → w ≡ x
whole_is plane column row h r x w e f = same_value r x w (diamond_only r x (e ∙ place-accepted plane column row h.size h.long h.place x)) f

module _ (p : Planes) (column row limit version : ℕ) (legal : Legal version p) (place : bad_macroblock column row ≡ false) (src : List ℕ) where
  abbrev whole_cost : Mv → ℕ
  whole_cost = cost_of (reference_of p) column row src

  abbrev cost : Mv → ℕ
  cost = cost_in (rows_for version) (reference_of p) column row src

  -- a refinement at a vector that 11 and 12 pass
  module _ (n step : ℕ) (v : Mv) (range : out_of_range v ≡ false) (grid : off_grid n v ≡ false) (r : Result SearchResult SearchRefusal)
      (e : search_outcome r ≡ first_of (refine_lines version n (reference_of p) column row v) (refine cost step v)) where
    here : search_outcome r ≡ accepted (refine cost step v)
    here = e ∙ refine-accepted (reference_of p) column row legal.size legal.long place version n v _ (le-ltb 2 version legal.known) range grid

    pub refined_ok : IsOk r
    refined_ok = rw (search_only r _ here) refl

    pub refined_is : (h : SearchResult) → r ≡ Ok h → h ≡ refine cost step v
    refined_is h f = same_value r _ h (search_only r _ here) f

  -- the vectors refined are such
  module _ (w : DiamondResult) (is : w ≡ whole_found whole_cost limit) where
    pub whole_range : out_of_range w.mv ≡ false
    whole_range = ap (λ (d : DiamondResult). out_of_range d.mv) is ∙ (never_11 whole_cost cost limit).0

    pub whole_grid : off_grid 4 w.mv ≡ false
    whole_grid = ap (λ (d : DiamondResult). off_grid 4 d.mv) is ∙ (never_12 whole_cost cost limit).0

    module _ (h : SearchResult) (half-is : h ≡ refine cost 2 w.mv) where
      half : h ≡ half_found whole_cost cost limit
      half = half-is ∙ ap (λ (d : DiamondResult). refine cost 2 d.mv) is

      pub half_range : out_of_range h.mv ≡ false
      half_range = ap (λ (s : SearchResult). out_of_range s.mv) half ∙ (never_11 whole_cost cost limit).1

      pub half_grid : off_grid 2 h.mv ≡ false
      half_grid = ap (λ (s : SearchResult). off_grid 2 s.mv) half ∙ (never_12 whole_cost cost limit).1
