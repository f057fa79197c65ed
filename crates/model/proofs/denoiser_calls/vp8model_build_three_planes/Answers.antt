-- `model::denoiser_calls::vp8model_build_three_planes` meets its contract: the answer's numbers are those of the defined outcome. Assumes nothing.
use Rattle.std.proofs.Common.{ap, ◌∙◌}
use Rattle.numbers.specs.Answers.{build_numbers}
use Rattle.model.proofs.denoiser_calls.vp8model_build_three_planes.Goals as goal

pub returns : goal.returns
returns c =
    let made = c.build_three_planes-r.ensures in
    record { numbers = c.build_numbers.ensures ∙ ap build_numbers made.answer; slices = made.slices }
