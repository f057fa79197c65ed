-- `search_entry` meets its contract. Assumes nothing.
use Rattle.std.proofs.Common.{ap, ◌∙◌, slice_set}
use mir.Facts.{to_z-of_z}
use Rattle.search.specs.declared.picture.SearchedMb.{SearchedMb}
use Rattle.search.specs.Picture.{picture_at}
use Rattle.search.specs.Refusals.{out_of_range}
use Rattle.search.proofs.Accepted.{in_range}
use Rattle.search.proofs.Grid.{range-fits}
use Rattle.search.proofs.Pictures.{entry-inside}
use Rattle.picture_search.proofs.search_entry.Goals as goal

pub returns : goal.returns
unfolding picture_at
returns c =
    let a = c.args in
    let m = c.search_mb-found in
    let r = in_range m.result.mv (ap (λ (s : SearchedMb). out_of_range s.mv) m.ensures ∙ entry-inside _ _ _ _ _ _) in (
      ap (λ (s : SearchedMb). s.sads) m.ensures,
      record {
        rows = ap (slice_set a.rows.now a.i) (to_z-of_z (range-fits m.result.mv.row r.row) ∙ ap (λ (s : SearchedMb). s.mv.row) m.ensures);
        cols = ap (slice_set a.cols.now a.i) (to_z-of_z (range-fits m.result.mv.col r.col) ∙ ap (λ (s : SearchedMb). s.mv.col) m.ensures);
        sads = ap (slice_set a.sads.now a.i) (ap (λ (s : SearchedMb). s.sad) m.ensures);
      },
    )
