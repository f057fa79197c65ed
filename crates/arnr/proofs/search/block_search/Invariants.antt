-- `arnr::search::block_search` meets its contract. The loop's invariant: the best so far is that of the steps taken, with its cost. Assumes nothing.
use Rattle.std.specs.Prelude.{ℕ, zero, suc, ◌≤◌}
use Rattle.denoiser.specs.declared.Displacement.{Displacement}
use Rattle.denoiser.specs.Search.{still}
use Rattle.denoiser.specs.Internal.{step_best, Reach, Measured, luma_cost}
use Rattle.arnr.proofs.search.block_search.Given as goal

-- what n of the four steps find, and how far they reach
abbrev pub found : (Displacement → ℕ) → ℕ → Displacement
found cost zero = still
found cost (suc zero) = step_best cost 8 still
found cost (suc (suc zero)) = step_best cost 4 (step_best cost 8 still)
found cost (suc (suc (suc zero))) = step_best cost 2 (step_best cost 4 (step_best cost 8 still))
found cost (suc (suc (suc (suc n)))) = step_best cost 1 (step_best cost 2 (step_best cost 4 (step_best cost 8 still)))

abbrev pub reach : ℕ → ℕ
reach zero = 0
reach (suc zero) = 8
reach (suc (suc zero)) = 12
reach (suc (suc (suc zero))) = 14
reach (suc (suc (suc (suc n)))) = 15

abbrev pub invariant-loop-step : goal.invariant-loop-step
invariant-loop-step l =
    (l.step-index ≤ 4) × Measured (luma_cost l.centre l.bytes l.p l.b) (found (luma_cost l.centre l.bytes l.p l.b) l.step-index) l.best × Reach (reach l.step-index) l.best.displacement
