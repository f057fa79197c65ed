-- Frame order does not matter, of calls for C (request 11): a call that returns refusal 0 is accepted, and of two such calls all numbers
-- and the entries of the lent slices are the same. Assumes nothing.
use Rattle.std.proofs.Common.{◌≡◌, refl, sym, ap, ◌∙◌, Bool, true, false, cond, List, ℕ, eqb}
use Rattle.laws.specs.Outcome.{Outcome, refused, accepted}
use Rattle.laws.proofs.Outcome.{never_refused}
use Rattle.window.specs.Refusals.{build_lines}
use Rattle.denoiser.specs.declared.Built.{Built}
use Rattle.denoiser.specs.Window.{Other, Scene, Rule}
use Rattle.denoiser.specs.Demand.{Held}
use Rattle.denoiser.specs.Build.{BuildInput, given_of, cropped, built_of, outcome_of}
use Rattle.denoiser.specs.Order.{SameFrames, SameBuild}
use Rattle.denoiser.proofs.Orders.{outcome_order}
use Rattle.numbers.specs.declared.answers.Build.{Build}
use Rattle.numbers.specs.Answers.{build_refused, build_numbers}
use Rattle.model.specs.Builders.{BuildExport}

-- the size and the accepted count that a call returns
abbrev pub built_by : Build → Built
built_by r = record { width = r.width; height = r.height; accepted = r.accepted }

-- a refusal's own number is returned
numbered : (k : ℕ) (v : List ℕ) → (build_refused k v).refusal ≡ k
numbered k v = either (eqb k 3) _ _ refl (either (eqb k 4) _ _ refl (either (eqb k 29) _ _ refl (either (eqb k 5) _ _ refl refl)))
  where
    either : (t : Bool) (a b : Build) → a.refusal ≡ k → b.refusal ≡ k → (cond t a b).refusal ≡ k
    either true a b e f = e
    either false a b e f = f

-- no line of a builder has the number 0
never_0 : (rule : Scene → Rule Other) (b : BuildInput) (v : List ℕ) → outcome_of rule b ≡ refused 0 v → ⊥
unfolding outcome_of
never_0 rule b v e = never_refused (build_lines (given_of b)) (built_of rule b.request) 0 v refl e

-- a call that returns refusal 0 is accepted, with the answer that it returns
pub accepted-by : (rule : Scene → Rule Other) (b : BuildInput) (r : Build) → r ≡ build_numbers (outcome_of rule b) → r.refusal ≡ 0
    → outcome_of rule b ≡ accepted (built_by r)
accepted-by rule b r n z = by (outcome_of rule b) refl
  where
    by : (o : Outcome Built) → outcome_of rule b ≡ o → o ≡ accepted (built_by r)
    by (accepted a) e = ap (λ (m : Build). accepted (built_by m)) (sym (n ∙ ap build_numbers e))
    by (refused k v) e =
        let k-is : k ≡ 0 = sym (numbered k v) ∙ ap (λ (m : Build). m.refusal) (sym (n ∙ ap build_numbers e)) ∙ z in
        absurd (never_0 rule b v (e ∙ ap (λ (j : ℕ). refused j v) k-is))

-- two calls of one builder that return refusal 0
pub order_exports : (rule : Scene → Rule Other) (b c : BuildInput) (r s : Build) (held kept : Held) → BuildExport rule b r held → BuildExport rule c s kept
    → SameFrames b.request c.request → r.refusal ≡ 0 → s.refusal ≡ 0
    → (r ≡ s) × SameBuild (cropped b.request) (built_by r) (built_by s) held kept
order_exports rule b c r s held kept one other same done also =
    let x = accepted-by rule b r one.numbers done in
    let y = accepted-by rule c s other.numbers also in
    let build : SameBuild (cropped b.request) (built_by r) (built_by s) held kept
    = outcome_order rule b c (built_by r) (built_by s) held kept x y one.slices other.slices same in
    (one.numbers ∙ ap build_numbers (x ∙ ap accepted build.answer ∙ sym y) ∙ sym other.numbers, build)
