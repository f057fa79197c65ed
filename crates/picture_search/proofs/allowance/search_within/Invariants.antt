-- `search_within` meets its contract. Assumes nothing.
use Rattle.std.proofs.Common.{◌≡◌}
use Rattle.prediction.specs.Filter.{rows_for}
use Rattle.search.specs.Picture.{mb_count, lists}
use Rattle.search.specs.Allowance as sharing
use Rattle.search.specs.Allowance.{picture_made, allowed_at}
use Rattle.picture_search.specs.Internal.{reference_of, source_of}
use Rattle.picture_search.proofs.Filling.{Filling}
use Rattle.picture_search.proofs.allowance.search_within.Given as goal

abbrev pub invariant-loop-i : goal.invariant-loop-i
invariant-loop-i l =
    let p = reference_of l.fn.p in
    let s = source_of l.fn.p in
    let at = allowed_at (rows_for l.fn.version) p s l.fn.allowance in
    Filling at l.fn.count (lists l.initial.rows l.initial.cols l.initial.sads) (lists l.rows l.cols l.sads) l.i
    × (l.remains ≡ sharing.remains (picture_made (rows_for l.fn.version) p s) l.fn.allowance (mb_count p) l.i)
