-- `raster_of` meets its contract. Assumes nothing.
use Rattle.std.proofs.Common.{ℕ, ◌/◌, ◌%◌, ℤ, w16, ap, ◌∙◌, arith}
use Rattle.std.proofs.lemmas.Int.{to_z-of_z}
use Rattle.laws.specs.Square.{step_to}
use Rattle.laws.proofs.Signed.{back}
use Rattle.search.specs.Search.{raster_of}
use Rattle.search.proofs.Grid.{range-fits}
use Rattle.motion_search.proofs.vectors.raster_of.Goals as goal

pub returns : goal.returns
unfolding raster_of
returns c =
    let a = c.args in
    let p = c.place_of-place.result in
    let is = c.place_of-place.ensures in
    let row = to_z-of_z w16 a.mv.row (range-fits a.mv.row (omega (arith, c.requires.2.row))) in
    let col = to_z-of_z w16 a.mv.col (range-fits a.mv.col (omega (arith, c.requires.2.col))) in
    rw (
      back w16 c.step_to.result c.step_to.type_inv ∙ c.step_to.ensures ∙ ap (λ (z : ℤ). step_to z (p / 3) a.step) row ∙ ap (λ (n : ℕ). step_to a.mv.row (n / 3) a.step) is,
      back w16 c.step_to-2.result c.step_to-2.type_inv ∙ c.step_to-2.ensures ∙ ap (λ (z : ℤ). step_to z (p % 3) a.step) col ∙ ap (λ (n : ℕ). step_to a.mv.col (n % 3) a.step) is,
    )
