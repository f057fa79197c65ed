-- `search_mb` meets its contract. Assumes nothing.
use Rattle.prediction.specs.Filter.{rows_for}
use Rattle.search.proofs.Pictures.{searched_is}
use Rattle.picture_search.specs.Internal.{reference_of, source_of}
use Rattle.picture_search.proofs.Reached.{refined_ok, refined_is, whole_range, whole_grid, half_range, half_grid}
use Rattle.picture_search.proofs.search_mb.Goals as goal

pub unwrap-half-requires : goal.unwrap-half-requires
unwrap-half-requires c =
    let a = c.args in
    let src = c.source_block-src.result in
    let legal = c.requires.legal in
    let place = c.requires.place in
    let w = c.whole_search-whole.ensures.found in
    refined_ok a.p a.column a.row a.max_iters a.version legal place src 4 2 c.whole_search-whole.result.mv
    (whole_range a.p a.column a.row a.max_iters a.version legal place src _ w)
    (whole_grid a.p a.column a.row a.max_iters a.version legal place src _ w)
    _ c.half_pixel_refine_luma.ensures

pub unwrap-quarter-requires : goal.unwrap-quarter-requires
unwrap-quarter-requires c =
    let a = c.args in
    let src = c.source_block-src.result in
    let legal = c.requires.legal in
    let place = c.requires.place in
    let w = c.whole_search-whole.ensures.found in
    let h = refined_is a.p a.column a.row a.max_iters a.version legal place src 4 2 c.whole_search-whole.result.mv
    (whole_range a.p a.column a.row a.max_iters a.version legal place src _ w)
    (whole_grid a.p a.column a.row a.max_iters a.version legal place src _ w)
    _ c.half_pixel_refine_luma.ensures _ c.unwrap-half.ensures in
    refined_ok a.p a.column a.row a.max_iters a.version legal place src 2 1 c.unwrap-half.result.mv
    (half_range a.p a.column a.row a.max_iters a.version legal place src _ w _ h)
    (half_grid a.p a.column a.row a.max_iters a.version legal place src _ w _ h)
    _ c.quarter_pixel_refine_luma.ensures

pub returns : goal.returns
returns c =
    let a = c.args in
    let src = c.source_block-src in
    let legal = c.requires.legal in
    let place = c.requires.place in
    let w = c.whole_search-whole.ensures.found in
    let h = refined_is a.p a.column a.row a.max_iters a.version legal place src.result 4 2 c.whole_search-whole.result.mv
    (whole_range a.p a.column a.row a.max_iters a.version legal place src.result _ w)
    (whole_grid a.p a.column a.row a.max_iters a.version legal place src.result _ w)
    _ c.half_pixel_refine_luma.ensures _ c.unwrap-half.ensures in
    let q = refined_is a.p a.column a.row a.max_iters a.version legal place src.result 2 1 c.unwrap-half.result.mv
    (half_range a.p a.column a.row a.max_iters a.version legal place src.result _ w _ h)
    (half_grid a.p a.column a.row a.max_iters a.version legal place src.result _ w _ h)
    _ c.quarter_pixel_refine_luma.ensures _ c.unwrap-quarter.ensures in
    searched_is (rows_for a.version) (reference_of a.p) (source_of a.p) a.max_iters a.column a.row _ _ _ _ src.ensures w h q
