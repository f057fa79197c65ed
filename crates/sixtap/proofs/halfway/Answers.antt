-- `halfway` meets its contract: the filtered sample of row 4. Assumes nothing.
use Rattle.std.proofs.Common.{◌∙◌}
use Rattle.filters.specs.Internal.{filtered_list}
use Rattle.sixtap.proofs.Sizes.{sample_law}
use Rattle.sixtap.proofs.halfway.Goals as goal

pub returns : goal.returns
unfolding filtered_list
returns c = c.filter.ensures ∙ sample_law _ _ _ c.row.ensures
