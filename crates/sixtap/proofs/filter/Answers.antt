use Rattle.sixtap.specs.Internal.{sample_of}
use Rattle.sixtap.proofs.filter.Goals as goal

pub returns : goal.returns
unfolding sample_of
returns c = cc
