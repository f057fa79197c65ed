-- The outcome of a sample's answer. Assumes nothing.
use Rattle.std.specs.Prelude.{ℕ, Result}
use Rattle.laws.specs.Outcome.{Outcome, result_outcome}
use Rattle.filters.specs.declared.BadSelector.{BadSelector}
use Rattle.filters.specs.Refusals.{selector_refusal}

abbrev pub sample_outcome : Result ℕ BadSelector → Outcome ℕ
sample_outcome = result_outcome selector_refusal
