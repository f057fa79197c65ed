-- `altref::core_of` meets its contract: it is `core_by` by luma alone, without half samples. Assumes nothing.
use Rattle.denoiser.proofs.Claims.{whole-build}
use Rattle.altref.proofs.core_of.Goals as goal

pub returns : goal.returns
returns c xs b = whole-build _ _ _ (c.core_by.ensures xs b)
