-- `arnr::build_half_sample` meets its contract: it is `build_by` with half samples. Assumes nothing.
use Rattle.arnr.proofs.build_half_sample.Goals as goal

pub returns : goal.returns
returns c = c.build_by.ensures
