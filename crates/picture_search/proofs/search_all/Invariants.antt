-- `search_all` meets its contract. Assumes nothing.
use Rattle.prediction.specs.Filter.{rows_for}
use Rattle.search.specs.Picture.{picture_at, lists}
use Rattle.picture_search.specs.Internal.{reference_of, source_of}
use Rattle.picture_search.proofs.Filling.{Filling}
use Rattle.picture_search.proofs.search_all.Given as goal

abbrev pub invariant-loop-i : goal.invariant-loop-i
invariant-loop-i l =
    Filling (picture_at (rows_for l.fn.version) (reference_of l.fn.p) (source_of l.fn.p) l.fn.max_iters) l.fn.count
    (lists l.initial.rows l.initial.cols l.initial.sads) (lists l.rows l.cols l.sads) l.i
