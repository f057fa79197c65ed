-- What a builder promises to C. Assumes nothing.
use Rattle.std.specs.Prelude.{◌≡◌}
use Rattle.denoiser.specs.Window.{Other, Scene, Rule}
use Rattle.denoiser.specs.Demand.{Held}
use Rattle.denoiser.specs.Build.{BuildInput, outcome_of, LeavesBy}
use Rattle.numbers.specs.declared.answers.Build.{Build}
use Rattle.numbers.specs.Answers.{build_numbers}

-- the numbers of the defined outcome, and what a builder leaves in the three slices, under a rule
pub record BuildExport (rule : Scene → Rule Other) (b : BuildInput) (r : Build) (held : Held) : Type 0 where
  pub numbers : r ≡ build_numbers (outcome_of rule b)
  pub slices : LeavesBy rule b held
