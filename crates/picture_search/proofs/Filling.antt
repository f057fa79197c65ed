-- A loop that fills the fronts of the three lists, one entry of each a turn. Assumes nothing.
use Rattle.std.proofs.Common.{◌≡◌, ap, ℕ, ◌+◌, ◌≤◌, ◌<◌, length}
use Rattle.laws.proofs.Front.{Fronting, front-start, front_turn, front_end}
use Rattle.search.specs.declared.picture.SearchedMb.{SearchedMb}
use Rattle.search.specs.Picture.{Lists}
use Rattle.picture_search.specs.Internal.{Entered, Filled}

pub record Filling (at : ℕ → SearchedMb) (n : ℕ) (old now : Lists) (i : ℕ) : Type 0 where
  pub rows : Fronting (λ k. (at k).mv.row) n old.rows now.rows i
  pub cols : Fronting (λ k. (at k).mv.col) n old.cols now.cols i
  pub sads : Fronting (λ k. (at k).sad) n old.sads now.sads i

module _ (at : ℕ → SearchedMb) (n : ℕ) (old : Lists) where
  pub filling_start : (n ≤ length old.rows) × (n ≤ length old.cols) × (n ≤ length old.sads) → Filling at n old old 0
  filling_start r = record { rows = front-start _ n old.rows r.0; cols = front-start _ n old.cols r.1; sads = front-start _ n old.sads r.2 }

  pub filling_turn : (now new : Lists) (i : ℕ) (m : SearchedMb) → Filling at n old now i → i < n → m ≡ at i → Entered m i now new → Filling at n old new (i + 1)
  filling_turn now new i m f h is e =
      record {
        rows = rw e.rows (front_turn _ n _ _ i _ f.rows h (ap (λ (s : SearchedMb). s.mv.row) is));
        cols = rw e.cols (front_turn _ n _ _ i _ f.cols h (ap (λ (s : SearchedMb). s.mv.col) is));
        sads = rw e.sads (front_turn _ n _ _ i _ f.sads h (ap (λ (s : SearchedMb). s.sad) is));
      }

  pub filling_end : (now : Lists) (i : ℕ) → Filling at n old now i → n ≤ i → Filled n at old now
  filling_end now i f h = record { rows = front_end _ n _ _ i f.rows h; cols = front_end _ n _ _ i f.cols h; sads = front_end _ n _ _ i f.sads h }
