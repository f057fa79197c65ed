-- `whole_search` meets its contract. Assumes nothing.
use Rattle.std.proofs.Common.{ap, arith}
use Rattle.search.specs.declared.DiamondResult.{DiamondResult}
use Rattle.search.specs.Picture.{zero_mv}
use Rattle.search.proofs.Luma.{luma_sads}
use Rattle.picture_search.specs.Internal.{reference_of}
use Rattle.picture_search.proofs.Reached.{whole_is}
use Rattle.picture_search.proofs.whole_search.Goals as goal

pub returns-clause-few : goal.returns-clause-few
returns-clause-few c =
    let a = c.args in
    let w = whole_is (reference_of a.p) a.column a.row c.requires _ _ _ c.small_diamond_search_luma.ensures c.unwrap.ensures in
    omega (arith, ap (λ (d : DiamondResult). d.sads) w, luma_sads (reference_of a.p) a.column a.row a.src.now c.fits-src zero_mv a.max_iters)
