-- `interp` meets its contract: the filtered sample of the row. Assumes nothing.
use Rattle.std.proofs.Common.{ℕ, ap, ◌∙◌, le-ltb}
use Rattle.laws.specs.Outcome.{accepted}
use Rattle.filters.specs.Internal.{filtered_list}
use Rattle.sixtap.proofs.Sizes.{sample_law}
use Rattle.sixtap.proofs.interp.Goals as goal

pub returns : goal.returns
unfolding filtered_list
returns c =
    simp (le-ltb _ _ c.if-selector-gt7.false)
    (ap (λ (n : ℕ). accepted n) (c.filter.ensures ∙ sample_law _ _ _ c.row.ensures))
