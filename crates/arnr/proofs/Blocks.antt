-- The rows of a block that are added one after the other: what the first r of them are, and the room that they use up. Assumes nothing.
use Rattle.std.proofs.Common.{◌≡◌, sym, List, ℕ, ◌+◌, ◌<◌, ◌≤◌, eqb}
use Rattle.std.specs.Prelude.{pos}
use Rattle.prediction.specs.Plane.{Samples}
use Rattle.denoiser.specs.Window.{gate}
use Rattle.denoiser.specs.Internal.{Slack, Light, Placed, between, within, share_by, term_by}
use Rattle.denoiser.specs.declared.Block.{Block}
use Rattle.denoiser.proofs.Gates.{gate-both, gate-most, between_none, between_step}
use Rattle.denoiser.proofs.Place.{placed_none, placed_then, placed_same, placed-room, term_most, share-most}

module _ (at columns rows : ℕ) (b : Block) (f : ℕ → ℕ → ℕ) where
  pub rows_none : (l : List ℕ) → Placed at columns rows (λ i j. gate (between b.y 0 j) (gate (between b.x b.columns i) (f i j))) l l
  rows_none l = placed_none _ _ _ _ _ (λ i j. between_none _ j _)

  pub rows_more : (r : ℕ) {old mid now : List ℕ}
      → Placed at columns rows (λ i j. gate (between b.y r j) (gate (between b.x b.columns i) (f i j))) old mid
      → Placed at columns rows (λ i j. gate (eqb j (b.y + r)) (gate (between b.x b.columns i) (f i j))) mid now
      → Placed at columns rows (λ i j. gate (between b.y (r + 1) j) (gate (between b.x b.columns i) (f i j))) old now
  rows_more r p q = placed_then at columns rows _ p q (λ i j. between_step _ _ j _)

  pub rows_all : (r : ℕ) {old now : List ℕ} → r ≡ b.rows
      → Placed at columns rows (λ i j. gate (between b.y r j) (gate (between b.x b.columns i) (f i j))) old now
      → Placed at columns rows (λ i j. gate (within b i j) (f i j)) old now
  unfolding within
  rows_all r e p = placed_same at columns rows _ (rw e at p) (λ i j. sym (gate-both _ _ _))

-- one frame's room is used up
pub rows_slack : (at columns rows : ℕ) (b : Block) (r : ℕ) (curve : List ℕ) (c s : Samples) {old now old' now' : List ℕ} → 0 < columns → Light curve
    → ((x y : ℕ) → s (pos x) (pos y) ≤ 255)
    → Placed at columns rows (λ i j. gate (between b.y r j) (gate (between b.x b.columns i) (term_by curve c s i j))) old now
    → Placed at columns rows (λ i j. gate (between b.y r j) (gate (between b.x b.columns i) (share_by curve c s i j))) old' now'
    → Slack 2 old old' → Slack 1 now now'
rows_slack at columns rows b r curve c s wide light byte p q slack =
    record {
      of_sums = placed-room at columns rows _ 4080 4080 _ _ wide p (λ i j. gate-most _ _ 4080 (gate-most _ _ 4080 (term_most curve c s light i j (byte i j)))) slack.of_sums;
      of_weights = placed-room at columns rows _ 16 16 _ _ wide q (λ i j. gate-most _ _ 16 (gate-most _ _ 16 (share-most curve c s light i j))) slack.of_weights;
    }
