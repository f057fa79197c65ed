-- `arnr::build_from_numbers` meets its contract: it is `build_by` without half samples. Assumes nothing.
use Rattle.denoiser.proofs.Claims.{whole-build}
use Rattle.arnr.proofs.build_from_numbers.Goals as goal

pub returns : goal.returns
returns c = whole-build _ _ _ c.build_by.ensures
