-- `arnr::search::round` meets its contract. The loop's invariant: the best so far is that of the start and the first k neighbours, with its cost. Assumes nothing.
use Rattle.std.proofs.Common.{◌≡◌, ap, ◌∙◌, refl, sym, ℕ, ◌+◌, ◌-◌, arith, rules}
use Rattle.laws.specs.Best.{better_of, best_of}
use Rattle.laws.proofs.Best.{best_none, best_more}
use Rattle.denoiser.specs.declared.Displacement.{Displacement}
use Rattle.denoiser.specs.declared.Motion.{Motion}
use Rattle.denoiser.specs.Search.{neighbour_of}
use Rattle.denoiser.specs.Internal.{step_best, Reach, Measured, luma_cost}
use Rattle.denoiser.proofs.Searches.{neighbour-reach, wider}
use Rattle.arnr.proofs.search.round.Goals as goal

module _ (cost : Displacement → ℕ) (from : Displacement) (step : ℕ) where
  none : (m : Motion) → m.displacement ≡ from → m.sad ≡ cost from → Measured cost (best_of cost from (neighbour_of from step) 0) m
  none m e f = let b = best_none cost from (neighbour_of from step) in record { displacement = e ∙ b; sad = f ∙ ap cost b }

  more : (k : ℕ) (m r : Motion) (d : Displacement) → Measured cost (best_of cost from (neighbour_of from step) k) m → d ≡ neighbour_of from step k
      → Measured cost (better_of cost m.displacement d) r → Measured cost (best_of cost from (neighbour_of from step) (k + 1)) r
  more k m r d i e q =
      let v = best_more cost from (neighbour_of from step) k m.displacement (better_of cost m.displacement d) i.displacement (ap (better_of cost m.displacement) e) in
      record { displacement = q.displacement ∙ v; sad = q.sad ∙ ap cost v }

pub loop-k-init : goal.loop-k-init
loop-k-init c = (search rules, none _ _ _ _ refl c.requires.sad_value)

pub try_at-found-requires : goal.try_at-found-requires
try_at-found-requires c =
    let l = c.loop-k in
    let step = c.args.step in
    let near : Reach (15 - step + step) (neighbour_of c.args.best.displacement step l.k)
    = neighbour-reach _ (15 - step) step _ c.loop-k-test.true c.requires.step_bound.1 in
    record {
      fits = c.requires.fits;
      lies = c.requires.lies;
      short = rw c.next_to.ensures (wider (15 - step + step) 15 _ (omega arith) near);
      rows_in_bounds = c.requires.rows_in_bounds;
      sad_value = l.invariant.1.sad ∙ sym (ap (luma_cost c.args.centre.now c.args.bytes.now c.args.p c.args.b) l.invariant.1.displacement);
    }

pub loop-k-preserved : goal.loop-k-preserved
loop-k-preserved c =
    let l = c.loop-k in (
      omega (arith, c.loop-k-test.true),
      more _ _ _ l.k l.found c.try_at-found.result _ l.invariant.1 c.next_to.ensures c.try_at-found.ensures,
    )

pub returns : goal.returns
unfolding step_best
returns c =
    let k-is : c.loop-k.k ≡ 8 = omega arith in
    rw k-is at c.loop-k.invariant.1
