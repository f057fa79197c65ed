-- `weights::distance_bound` meets its contract. The invariant: `bound` is the largest over the differences passed. Assumes nothing.
use Rattle.std.proofs.Common.{◌≡◌, refl, ap, ◌∙◌, List, ℕ, ◌+◌, ◌*◌, ◌<◌, max, add-one, arith, get_or}
use Rattle.laws.specs.Tabulate.{tabulate}
use Rattle.laws.proofs.Tabulate.{get_d_tabulate}
use Rattle.laws.specs.Largest.{largest, nearest}
use Rattle.weights.specs.Weights.{weight_read}
use Rattle.weights.specs.Blend.{distance_bound}
use Rattle.weights.proofs.Weights.{read_most}
use Rattle.weights.proofs.distance_bound.Invariants.{moved_at}
use Rattle.weights.proofs.distance_bound.Goals as goal

-- the weight that is read
read : (strength e : ℕ) (shares : List ℕ) → shares ≡ tabulate 256 (weight_read strength) → e < 256 → get_or shares e 0 ≡ weight_read strength e
read strength e shares h lt = ap (λ (l : List ℕ). get_or l e 0) h ∙ get_d_tabulate 256 (weight_read strength) e 0 lt

larger : (f : ℕ → ℕ) (n b : ℕ) → b ≡ max (largest f n) (f n) → b ≡ largest f (n + 1)
unfolding largest
larger f n b h = rw add-one h

pub loop-e-init : goal.loop-e-init
unfolding largest
loop-e-init c = (omega arith, refl)

pub moved_by-requires : goal.moved_by-requires
moved_by-requires c =
    let r = read c.args.strength c.loop-e.e _ c.curve-shares.ensures (omega arith) in
    omega (arith, r, read_most c.args.strength c.loop-e.e)

pub loop-e-preserved : goal.loop-e-preserved
unfolding moved_at
loop-e-preserved c =
    let n = c.args.n in
    let e = c.loop-e.e in
    let f = moved_at c.args.strength n in
    let r = read c.args.strength e _ c.curve-shares.ensures (omega arith) in
    let moved_is : c.moved_by.result ≡ f e = c.moved_by.ensures.0 ∙ ap (λ (w : ℕ). nearest (n * (e * w)) (16 + n * w)) r in
    (omega (arith, c.moved_by.ensures.1), larger f e c.max-bound.result (omega (arith, moved_is)))

pub returns : goal.returns
unfolding distance_bound moved_at
returns c =
    let e_is : c.loop-e.e ≡ 256 = omega arith in
    c.loop-e.invariant.1 ∙ ap (largest (moved_at c.args.strength c.args.n)) e_is
