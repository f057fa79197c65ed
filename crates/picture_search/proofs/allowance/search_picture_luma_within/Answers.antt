-- `search_picture_luma_within` meets its contract. Assumes nothing.
use Rattle.search.specs.Picture.{lists}
use Rattle.picture_search.specs.declared.Planes.{Planes}
use Rattle.picture_search.specs.Internal.{reference_of, source_of}
use Rattle.picture_search.proofs.Promise.{few}
use Rattle.picture_search.proofs.Allowed.{handed_on}
use Rattle.picture_search.proofs.allowance.search_picture_luma_within.Goals as goal

pub returns-in_err-macroblocks : goal.returns-in_err-macroblocks
returns-in_err-macroblocks c =
    let a = c.args in
    let p : Planes = record { plane = a.plane; stride = a.stride; width = a.width; height = a.height; source = a.source; source_stride = a.source_stride } in
    handed_on a.version a.allowance (reference_of p) (source_of p) (lists a.rows.now a.cols.now a.sads.now) _ _
    c.from_residual.ensures.1 c.in_err-macroblocks.ensures

pub low_allowance-requires : goal.low_allowance-requires
low_allowance-requires c =
    let a = c.args in
    let p : Planes = record { plane = a.plane; stride = a.stride; width = a.width; height = a.height; source = a.source; source_stride = a.source_stride } in
    let l = lists a.rows.now a.cols.now a.sads.now in
    few a.version p l c.checked.result _ c.checked.ensures c.in_ok-macroblocks.was
