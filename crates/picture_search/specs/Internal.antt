-- What the private functions ask of their arguments. No public contract uses these definitions. Assumes nothing.
use Rattle.std.specs.Prelude.{◌≡◌, false, ℕ, ◌≤◌, set}
use Rattle.laws.specs.Front.{front}
use Rattle.prediction.specs.Plane.{Plane, luma_plane}
use Rattle.prediction.specs.Refusals.{bad_size, short_plane}
use Rattle.search.specs.declared.picture.SearchedMb.{SearchedMb}
use Rattle.search.specs.Refusals.{bad_macroblock}
use Rattle.search.specs.Picture.{Lists}
use Rattle.picture_search.specs.declared.Planes.{Planes}

-- the two planes of a picture
abbrev pub reference_of : Planes → Plane
reference_of p = luma_plane p.plane.now p.stride p.width p.height

abbrev pub source_of : Planes → Plane
source_of p = luma_plane p.source.now p.source_stride p.width p.height

-- none of 8, 9 and 10 applies to a plane and a macroblock's column and row
pub record Placed (p : Plane) (column row : ℕ) : Type 0 where
  pub size : bad_size p ≡ false
  pub long : short_plane p ≡ false
  pub place : bad_macroblock column row ≡ false

-- what the search of macroblock i leaves: its entry of each list is given
pub record Entered (m : SearchedMb) (i : ℕ) (old held : Lists) : Type 0 where
  pub rows : held.rows ≡ set old.rows i m.mv.row
  pub cols : held.cols ≡ set old.cols i m.mv.col
  pub sads : held.sads ≡ set old.sads i m.sad

-- what the loop leaves: the front of each list is given
pub record Filled (n : ℕ) (at : ℕ → SearchedMb) (old held : Lists) : Type 0 where
  pub rows : held.rows ≡ front n (λ i. (at i).mv.row) old.rows
  pub cols : held.cols ≡ front n (λ i. (at i).mv.col) old.cols
  pub sads : held.sads ≡ front n (λ i. (at i).sad) old.sads

-- a picture that can be searched: none of 23, 8, 9 and 14 applies
pub record Legal (version : ℕ) (p : Planes) : Type 0 where
  pub known : version ≤ 2
  pub size : bad_size (reference_of p) ≡ false
  pub long : short_plane (reference_of p) ≡ false
  pub source-long : short_plane (source_of p) ≡ false
