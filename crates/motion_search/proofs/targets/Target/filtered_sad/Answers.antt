-- `filtered_sad` meets its contract. Assumes nothing.
use Rattle.std.proofs.Common.{◌≡◌, List, ℕ, ◌*◌, FitsSigned, w16, to_z, of_z, ◌∙◌, rules}
use Rattle.std.proofs.lemmas.Int.{to_z-of_z}
use Rattle.laws.specs.Outcome.{first_of}
use Rattle.prediction.specs.declared.motion_comp.FilterSet.{FilterSet}
use Rattle.prediction.specs.declared.motion_comp.FilterSet.TheVariants.{Sixtap, Bilinear}
use Rattle.prediction.specs.declared.motion_vector.Mv.{Mv}
use Rattle.prediction.specs.Vector.{fraction_of}
use Rattle.prediction.specs.Plane.{sample_at}
use Rattle.prediction.specs.Filter.{taps_of}
use Rattle.prediction.specs.Prediction.{halo_of, offset_by, filtered_mb}
use Rattle.prediction.specs.Refusals.{block_of}
use Rattle.filters.specs.Refusals.{filter_lines}
use Rattle.search.specs.declared.Site.{Site}
use Rattle.search.specs.Internal.{plane_of, predicted_from}
use Rattle.search.proofs.SadLaws.{fetched_is, filtered_is, predicted_is}
use Rattle.motion_search.proofs.targets.Target.filtered_sad.Goals as goal

-- what a filter of either set gives is the prediction
predicted : (set : FilterSet) (plane : List ℕ) (s : Site) (v : Mv) (mx my : ℕ) (halo block : List ℕ) → FitsSigned w16 v.col → FitsSigned w16 v.row
    → mx ≡ fraction_of (to_z w16 (of_z w16 v.col)) → my ≡ fraction_of (to_z w16 (of_z w16 v.row))
    → halo ≡ halo_of (offset_by (16 * s.column) (16 * s.row) v (sample_at (plane_of plane s)))
    → block ≡ block_of 256 (first_of (filter_lines mx my) (filtered_mb (taps_of set) mx my halo))
    → block ≡ predicted_from (taps_of set) plane s v
predicted set plane s v mx my halo block fc fr p q r e =
    filtered_is v.col v.row 256 _ _ (rw (p, q, r, to_z-of_z w16 v.col fc, to_z-of_z w16 v.row fr) at e) ∙ predicted_is (taps_of set) plane s v

pub returns-in-Sixtap : goal.returns-in-Sixtap
returns-in-Sixtap c =
    let halo = fetched_is _ _ _ c.args.self.now.ready 441 _ _ c.fetch_luma_mb_halo-fetched.ensures.beside in
    let block = predicted Sixtap _ _ c.args.eighths _ _ _ _ (search rules) (search rules) c.fraction-mx.ensures c.fraction-my.ensures halo c.sixtap_mb_luma-filtered.ensures.beside in
    rw c.in-Sixtap.is (rw block at c.block_sad.ensures)

pub returns-in-Bilinear : goal.returns-in-Bilinear
returns-in-Bilinear c =
    let halo = fetched_is _ _ _ c.args.self.now.ready 441 _ _ c.fetch_luma_mb_halo-fetched.ensures.beside in
    let block = predicted Bilinear _ _ c.args.eighths _ _ _ _ (search rules) (search rules) c.fraction-mx.ensures c.fraction-my.ensures halo c.bilinear_mb_luma-filtered.ensures.beside in
    rw c.in-Bilinear.is (rw block at c.block_sad-in-Bilinear.ensures)
