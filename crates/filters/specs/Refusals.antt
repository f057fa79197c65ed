-- Refusal 13 of document 01, and the outcome of a filter's answer. Assumes nothing.
use Rattle.std.specs.Prelude.{◌≡◌, ◌||◌, List, [], ◌∷◌, ℕ, Result, ⊤}
use Rattle.laws.specs.Outcome.{Outcome, refused, Line, line, beside_outcome}
use Rattle.prediction.specs.Refusals.{bad_selector, block_of}
use Rattle.filters.specs.declared.BadSelector.{BadSelector}

abbrev pub selector_lines : ℕ → List Line
selector_lines s = line 13 (bad_selector s) [] ∷ []

abbrev pub filter_lines : ℕ → ℕ → List Line
filter_lines mx my = line 13 (bad_selector mx || bad_selector my) [] ∷ []

-- the refusal of a selector
abbrev pub selector_refusal : {A : Type 0} → BadSelector → Outcome A
selector_refusal e = refused 13 []

-- the outcome of an answer, with the block beside it
abbrev pub filter_outcome : Result ⊤ BadSelector → List ℕ → Outcome (List ℕ)
filter_outcome = beside_outcome selector_refusal

-- what a filter promises: the outcome, and the block of n samples
pub record FilterIs (expected : Outcome (List ℕ)) (n : ℕ) (answer : Result ⊤ BadSelector) (block : List ℕ) : Type 0 where
  pub outcome : filter_outcome answer block ≡ expected
  pub beside : block ≡ block_of n expected
