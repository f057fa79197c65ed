use Rattle.std.proofs.Common.{◌≡◌, ap, ◌∙◌, ℕ, ◌/◌, ◌%◌, ℤ, lt-ltb, le-ltb, arith, w32}
use Rattle.std.proofs.Math.Facts.{to_z-of_z}
use Rattle.laws.proofs.Signed.{back}
use Rattle.denoiser.specs.Search.{neighbour_of}
use Rattle.laws.specs.Square.{square_place, step_to}
use Rattle.denoiser.proofs.Planes.{short-fits, same-displacement}
use Rattle.arnr.proofs.search.next_to.Goals.{then-k-lt4, else-k-lt4}
use Rattle.arnr.proofs.search.next_to.Goals as goal

pub returns : goal.returns
unfolding neighbour_of
returns c =
    let place_is : c.if-k-lt4.place ≡ square_place c.args.k = elim c.if-k-lt4.branch [ then-k-lt4 w ↦ simp (lt-ltb _ 4 w.if-k-lt4.true) (omega arith) | else-k-lt4 w ↦ simp (le-ltb _ 4 w.if-k-lt4.false) (omega arith) ] in
    let d = c.args.d in
    let step = c.args.step in
    let k-place = place_is in
    same-displacement
    (back w32 c.step_to-dx.result c.step_to-dx.type_inv ∙ c.step_to-dx.ensures
    ∙ ap (λ (v : ℤ). step_to v (c.if-k-lt4.place % 3) step) (to_z-of_z (short-fits d c.requires.2).0)
    ∙ ap (λ (t : ℕ). step_to d.dx (t % 3) step) k-place)
    (back w32 c.step_to-dy.result c.step_to-dy.type_inv ∙ c.step_to-dy.ensures
    ∙ ap (λ (v : ℤ). step_to v (c.if-k-lt4.place / 3) step) (to_z-of_z (short-fits d c.requires.2).1)
    ∙ ap (λ (t : ℕ). step_to d.dy (t / 3) step) k-place)
