-- `arnr::search::block_search` meets its contract: each step reaches no further than 15. Assumes nothing.
use Rattle.std.proofs.Common.{arith, refl, ap, sym, ◌≡◌, ◌∙◌, ℕ, zero, suc, ◌+◌, ◌<◌, List, [], ◌∷◌, get_or}
use Rattle.denoiser.specs.declared.Displacement.{Displacement}
use Rattle.denoiser.specs.declared.Motion.{Motion}
use Rattle.denoiser.specs.Internal.{step_best, Measured}
use Rattle.denoiser.proofs.Ceilings.{luma_whole}
use Rattle.denoiser.proofs.Searches.{step_best-reach, search_steps}
use Rattle.arnr.proofs.search.block_search.Invariants.{found, reach}
use Rattle.arnr.proofs.search.block_search.Goals as goal

abbrev steps : List ℕ
steps = 8 ∷ 4 ∷ 2 ∷ 1 ∷ []

-- one step more
module _ (cost : Displacement → ℕ) where
  next : (i : ℕ) → i < 4 → step_best cost (get_or steps i 0) (found cost i) ≡ found cost (i + 1)
  next zero h = refl
  next (suc zero) h = refl
  next (suc (suc zero)) h = refl
  next (suc (suc (suc zero))) h = refl
  next (suc (suc (suc (suc i)))) h = absurd (omega arith)

  at : {d e : Displacement} {m : Motion} → d ≡ e → Measured cost d m → Measured cost e m
  at e m = record { displacement = m.displacement ∙ e; sad = m.sad ∙ ap cost e }

further : (i : ℕ) → i < 4 → reach i + get_or steps i 0 ≡ reach (i + 1)
further zero h = refl
further (suc zero) h = refl
further (suc (suc zero)) h = refl
further (suc (suc (suc zero))) h = refl
further (suc (suc (suc (suc i)))) h = absurd (omega arith)

pub loop-step-init : goal.loop-step-init
loop-step-init c =
    let t = c.type_inv in
    let e = luma_whole _ _ _ _ _ 65281 _ c.still_sad-first.ensures c.requires.lies (λ k. omega (arith, t.centre k)) (λ k. omega (arith, t.bytes k)) (omega arith) in
    (omega arith, record { displacement = refl; sad = e }, omega arith)

pub loop-step-preserved : goal.loop-step-preserved
loop-step-preserved c =
    let l = c.loop-step in
    let i = l.step-index in
    let h : i < 4 = c.loop-step-test.true in
    let m = c.round-best.ensures in (
      omega (arith, h),
      at _ (ap (step_best _ (get_or steps i 0)) l.invariant.1.displacement ∙ next _ i h) m,
      rw (sym (further i h), m.displacement) (step_best-reach _ (get_or steps i 0) (reach i) _ l.invariant.2),
    )

pub returns : goal.returns
returns c =
    let l = c.loop-step in
    let i-is : l.step-index ≡ 4 = omega (arith, l.invariant.0) in
    at _ (sym (search_steps _)) (rw i-is at l.invariant.1)
