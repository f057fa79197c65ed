-- A refusal has the same numbers from a builder and from its checks alone. Assumes nothing.
use mathlib.Core.Path.{◌≡◌, refl}
use Rattle.window.specs.declared.Refusal.{Refusal}
use Rattle.window.specs.declared.Refusal.TheVariants.{NoCentre, TooManyFrames, BadSize, OtherSize, CapTooHigh, PlaneUnfit, ShortOutput, ShortWorking}
use Rattle.window.specs.Refusals.{refusal_outcome}
use Rattle.numbers.specs.Answers.{build_numbers, check_numbers}

pub same-refusal : (r : Refusal) → build_numbers (refusal_outcome r) ≡ check_numbers (refusal_outcome r)
same-refusal NoCentre = refl
same-refusal TooManyFrames = refl
same-refusal (BadSize s) = refl
same-refusal (OtherSize s c) = refl
same-refusal (CapTooHigh g) = refl
same-refusal (PlaneUnfit g) = refl
same-refusal ShortOutput = refl
same-refusal ShortWorking = refl
