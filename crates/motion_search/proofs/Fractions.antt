-- A vector without fractions. Assumes nothing.
use Rattle.std.proofs.Common.{◌≡◌, ℕ, FitsSigned, w16, to_z, of_z, sym, ap, ◌∙◌}
use Rattle.std.proofs.lemmas.Int.{to_z-of_z}
use Rattle.prediction.specs.declared.motion_vector.Mv.{Mv}
use Rattle.prediction.specs.Vector.{stored_mv, fraction_of}
use Rattle.search.specs.Internal.{Copied}

-- where no fraction is left of a vector in eighths, its block is copied
pub no_fractions : (v e : Mv) (row col : ℕ) → e ≡ stored_mv v → FitsSigned w16 e.row → FitsSigned w16 e.col
    → row ≡ fraction_of (to_z w16 (of_z w16 e.row)) → row ≡ 0 → col ≡ fraction_of (to_z w16 (of_z w16 e.col)) → col ≡ 0 → Copied v
no_fractions v e row col is fr fc p q s t =
    let r = rw (to_z-of_z w16 e.row fr) at p in
    let k = rw (to_z-of_z w16 e.col fc) at s in
    record {
      row = ap (λ (w : Mv). fraction_of w.row) (sym is) ∙ sym r ∙ q;
      col = ap (λ (w : Mv). fraction_of w.col) (sym is) ∙ sym k ∙ t;
    }
