-- Laws of `Spread`: what is added to the three planes comes together.

use Rattle.std.proofs.Common.{◌≡◌, refl, ap, ◌∙◌, List, ℕ, zero, suc, ◌+◌, ◌-◌, ◌*◌, ◌/◌, ◌%◌, ◌^◌, ◌≤◌, ◌<◌, zero-add, div-add-mod', mod-lt, div-lt_iff_lt-mul, arith, get_or, ℤ}
use Rattle.std.proofs.Math.Decide.{dec_lt}
use Rattle.window.specs.Layout.{side_of, offset_of, packed_size}
use Rattle.prediction.specs.Plane.{Samples}
use Rattle.denoiser.specs.declared.Block.{Block}
use Rattle.denoiser.specs.Grid.{block_in}
use Rattle.denoiser.specs.Window.{gate}
use Rattle.denoiser.specs.Internal.{Lent, Room, Slack, Light, Placed, Spread, within, term_by, share_by, packed_picture}
use Rattle.denoiser.proofs.Gates.{gate-most}
use Rattle.denoiser.proofs.Place.{placed-room, term_most, share-most}
use Rattle.denoiser.proofs.Planes.{below_end}

pub spread_none : (w h : ℕ) (f : ℕ → ℕ → ℕ → ℕ) (l : List ℕ) → ((k x y : ℕ) → x < side_of k w → y < side_of k h → f k x y ≡ 0) → Spread w h f l l
spread_none w h f l z =
    record { long = refl; at = λ k x y hk hx hy. let e = z k x y hx hy in omega arith; past = λ i hi. refl }

pub spread_then : (w h : ℕ) {f g : ℕ → ℕ → ℕ → ℕ} (t : ℕ → ℕ → ℕ → ℕ) {old mid now : List ℕ} → Spread w h f old mid → Spread w h g mid now
    → ((k x y : ℕ) → x < side_of k w → y < side_of k h → f k x y + g k x y ≡ t k x y) → Spread w h t old now
spread_then w h t a b e =
    record {
      long = b.long ∙ a.long;
      at = λ k x y hk hx hy. let u = a.at k x y hk hx hy in let v = b.at k x y hk hx hy in let s = e k x y hx hy in omega arith;
      past = λ i hi. b.past i hi ∙ a.past i hi;
    }

pub spread_same : (w h : ℕ) {f : ℕ → ℕ → ℕ → ℕ} (g : ℕ → ℕ → ℕ → ℕ) {old now : List ℕ} → Spread w h f old now
    → ((k x y : ℕ) → k < 3 → x < side_of k w → y < side_of k h → f k x y ≡ g k x y) → Spread w h g old now
spread_same w h g a e =
    record { long = a.long; at = λ k x y hk hx hy. let u = a.at k x y hk hx hy in let s = e k x y hk hx hy in omega arith; past = a.past }

-- Y, then U, then V
pub spread_three : (w h : ℕ) (f : ℕ → ℕ → ℕ → ℕ) {old a b now : List ℕ}
    → Placed 0 w h (f 0) old a → Placed (w * h) ((w + 1) / 2) ((h + 1) / 2) (f 1) a b
    → Placed (w * h + (w + 1) / 2 * ((h + 1) / 2)) ((w + 1) / 2) ((h + 1) / 2) (f 2) b now → Spread w h f old now
spread_three w h f {old} {a} {b} {now} p q r =
    record { long = r.long ∙ q.long ∙ p.long; at = at; past = λ i hi. r.after i hi ∙ q.after i (omega arith) ∙ p.after i (omega arith) }
  where
    cw : ℕ
    cw = (w + 1) / 2

    ch : ℕ
    ch = (h + 1) / 2

    at : (k x y : ℕ) → k < 3 → x < side_of k w → y < side_of k h
        → get_or now (offset_of k w h + (y * side_of k w + x)) 0 ≡ get_or old (offset_of k w h + (y * side_of k w + x)) 0 + f k x y
    at zero x y hk hx hy =
        let l = below_end w h x y hx hy in
        r.before (0 + (y * w + x)) (omega arith) ∙ q.before (0 + (y * w + x)) (omega arith) ∙ p.inside x y hx hy
    at (suc zero) x y hk hx hy =
        let l = below_end cw ch x y hx hy in
        r.before (w * h + (y * cw + x)) (omega arith) ∙ q.inside x y hx hy
        ∙ ap (λ (t : ℕ). t + f 1 x y) (p.after (w * h + (y * cw + x)) (omega arith))
    at (suc (suc zero)) x y hk hx hy =
        let n = w * h + cw * ch in
        r.inside x y hx hy
        ∙ ap (λ (t : ℕ). t + f 2 x y) (q.after (n + (y * cw + x)) (omega arith) ∙ p.after (n + (y * cw + x)) (omega arith))
    at (suc (suc (suc k))) x y hk hx hy = absurd (omega arith)

-- where no more than m is added anywhere, room for m is used up
pub spread_room : (w h : ℕ) (f : ℕ → ℕ → ℕ → ℕ) (n m : ℕ) (old now : List ℕ) → 0 < w → Spread w h f old now
    → ((k x y : ℕ) → f k x y ≤ m) → Room (n + m) old → Room n now
spread_room w h f n m old now wide g most room t = by (dec_lt t (w * h)) (dec_lt t (w * h + cw * ch)) (dec_lt t (packed_size w h))
  where
    cw : ℕ
    cw = (w + 1) / 2

    ch : ℕ
    ch = (h + 1) / 2

    half : 0 < (w + 1) / 2
    half = omega arith

    in_plane : (k : ℕ) → k < 3 → (i : ℕ) → offset_of k w h + i ≡ t → i < side_of k w * side_of k h → 0 < side_of k w → get_or now t 0 + n < 2 ^ 32
    in_plane k hk i t-is less side =
        let c = side_of k w in
        let hx : i % c < c = mod-lt i side in
        let hy : i / c < side_of k h = (div-lt_iff_lt-mul side).1 (omega arith) in
        let i_is : i / c * c + i % c ≡ i = div-add-mod' i c in
        let here : offset_of k w h + (i / c * c + i % c) ≡ t = ap (λ (v : ℕ). offset_of k w h + v) i_is ∙ t-is in
        let at-t : get_or now t 0 ≡ get_or old t 0 + f k (i % c) (i / c) = rw here at (g.at k (i % c) (i / c) hk hx hy) in
        omega (arith, most k (i % c) (i / c), room t)

    by : Dec (t < w * h) → Dec (t < w * h + cw * ch) → Dec (t < packed_size w h) → get_or now t 0 + n < 2 ^ 32
    by (yes l) d e = in_plane 0 (omega arith) t (zero-add t) l wide
    by (no l) (yes d) e = in_plane 1 (omega arith) (t - w * h) (omega arith) (omega arith) half
    by (no l) (no d) (yes e) = in_plane 2 (omega arith) (t - (w * h + cw * ch)) (omega arith) (omega arith) half
    by (no l) (no d) (no e) = rw (g.past t (omega arith)) (let r = room t in omega arith)

-- one plane of a block, by any samples that are bytes: one frame's room is used up, and the lengths stay
module _ (w h : ℕ) (b : Block) (k : ℕ) (curve out : List ℕ) (samples : Samples) (light : Light curve) (side : 0 < side_of k w) (byte : (x y : ℤ) → samples x y ≤ 255)
    {sums₀ sums weights₀ weights : List ℕ}
    (p : Placed (offset_of k w h) (side_of k w) (side_of k h) (λ x y. gate (within (block_in k b) x y) (term_by curve (packed_picture w h out k) samples x y)) sums₀ sums)
    (q : Placed (offset_of k w h) (side_of k w) (side_of k h) (λ x y. gate (within (block_in k b) x y) (share_by curve (packed_picture w h out k) samples x y)) weights₀ weights) where
  pub plane_slack : (n : ℕ) → Slack (n + 1) sums₀ weights₀ → Slack n sums weights
  plane_slack n s =
      record {
        of_sums =
            placed-room _ _ _ _ (n * 4080) 4080 _ _ side p (λ i j. gate-most _ _ 4080 (term_most curve _ _ light i j (byte _ _)))
            (λ i. let r = s.of_sums i in omega arith);
        of_weights =
            placed-room _ _ _ _ (n * 16) 16 _ _ side q (λ i j. gate-most _ _ 16 (share-most curve _ _ light i j)) (λ i. let r = s.of_weights i in omega arith);
      }

  pub plane-lent : Lent (packed_size w h) out sums₀ weights₀ → Lent (packed_size w h) out sums weights
  plane-lent l = record { in_out = l.in_out; in_sums = rw p.long l.in_sums; in_weights = rw q.long l.in_weights }

pub slack_less : (m n : ℕ) (sums weights : List ℕ) → m ≤ n → Slack n sums weights → Slack m sums weights
slack_less m n sums weights h s = record { of_sums = λ k. let r = s.of_sums k in omega arith; of_weights = λ k. let r = s.of_weights k in omega arith }

-- both working slices at once: where no more than m frames are added, n of n + m are left, and the lengths stay
module _ (w h : ℕ) {f g : ℕ → ℕ → ℕ → ℕ} {sums₀ sums weights₀ weights : List ℕ} (a : Spread w h f sums₀ sums) (b : Spread w h g weights₀ weights) where
  pub spread_slack : (n m : ℕ) → 0 < w → ((k x y : ℕ) → f k x y ≤ m * 4080) → ((k x y : ℕ) → g k x y ≤ m * 16) → Slack (n + m) sums₀ weights₀ → Slack n sums weights
  spread_slack n m wide hf hg s =
      record {
        of_sums = spread_room w h f (n * 4080) (m * 4080) sums₀ sums wide a hf (λ i. let r = s.of_sums i in omega arith);
        of_weights = spread_room w h g (n * 16) (m * 16) weights₀ weights wide b hg (λ i. let r = s.of_weights i in omega arith);
      }

  pub spread_lent : (n : ℕ) (out : List ℕ) → Lent n out sums₀ weights₀ → Lent n out sums weights
  spread_lent n out l = record { in_out = l.in_out; in_sums = rw a.long l.in_sums; in_weights = rw b.long l.in_weights }
