-- A blend in slices of P entries: seeded by the packed centre, raised by every other frame, resolved. It is the window's. Assumes nothing.
use Rattle.std.proofs.Common.{◌≡◌, refl, sym, ap, ◌∙◌, List, ℕ, ◌+◌, ◌*◌, ◌^◌, ◌≤◌, ◌<◌, arith, pos, length, get_or}
use Rattle.std.proofs.Math.Decide.{dec_lt}
use Rattle.std.proofs.Math.ListN.{get_or-eq_default}
use Rattle.laws.specs.Sums.{sum_over}
use Rattle.laws.proofs.Sums.{sum_over-same}
use Rattle.laws.specs.Tabulate.{tabulate}
use Rattle.weights.specs.Weights.{weight_read}
use Rattle.weights.proofs.Weights.{capped}
use Rattle.weights.specs.Blend.{total_weight, weighted_sum, denoised}
use Rattle.laws.proofs.Each.{Each}
use Rattle.window.specs.Layout.{side_of, packed_size, place_of}
use Rattle.window.specs.Frames.{frame_at, frame_count}
use Rattle.denoiser.specs.Window.{centre_at, total_at, sum_at, denoised_at, accepted_blocks}
use Rattle.denoiser.specs.declared.Choice.{Choice}
use Rattle.denoiser.specs.Chroma.{chosen_sample, rule_of}
use Rattle.denoiser.specs.Pictures.{picture_of, other_of, others_of}
use Rattle.denoiser.specs.Build.{Request, scene_of, window_of}
use Rattle.denoiser.specs.Internal.{Room, Front, Spread, Shows, Ready, Legal, packed_picture, packed_scene, other_share, other_term, other_blocks}
use Rattle.denoiser.proofs.Demands.{Fair, sample-byte, total-some, total-most, sum-most}
use Rattle.denoiser.proofs.Halves.{sample_in-byte}
use Rattle.denoiser.proofs.Join.{Agree, share_joined, term_joined, count_joined, curve-at}
use Rattle.denoiser.proofs.Others.{others_each, others-count}
use Rattle.denoiser.proofs.Packs.{found, place-below}
use Rattle.denoiser.proofs.Pictures.{picture-byte}
use Rattle.denoiser.proofs.Planes.{packed-at}

-- room in a list of n entries that holds f, none above m
pub front-room : (n m r : ℕ) (f : ℕ → ℕ) (old now : List ℕ) → length old ≡ n → Front n f old now → ((k : ℕ) → f k ≤ m) → m + r < 2 ^ 32 → Room r now
front-room n m r f old now long g most fits k = by (dec_lt k n)
  where
    by : Dec (k < n) → get_or now k 0 + r < 2 ^ 32
    by (yes l) = rw (g.within k l) (let h = most k in omega arith)
    by (no l) = rw (get_or-eq_default now 0 {n = k} (let e = g.long in omega arith)) (omega arith)

module _ (o : Choice) (q : Request) (w h : ℕ) (legal : Legal q w h) (byte : (i : ℕ) → get_or q.bytes i 0 < 256) where
  -- the window's pictures are bytes, and its rule is fair
  centre-byte : (k x y : ℕ) → centre_at (scene_of q) k x y < 256
  unfolding scene_of
  centre-byte k x y = let b = picture-byte q.bytes (frame_at q.numbers q.centre) byte k (pos x) (pos y) in omega arith

  displaced-byte : (g k x y : ℕ) → chosen_sample o (scene_of q) (picture_of q.bytes (frame_at q.numbers g)) k x y ≤ 255
  unfolding chosen_sample
  displaced-byte g k x y = sample_in-byte o.half_sample k _ _ (picture-byte q.bytes (frame_at q.numbers g) byte k) (pos x) (pos y)

  fair_frame : (g : ℕ) → Fair (rule_of o (scene_of q)) (scene_of q) (other_of q.bytes (frame_at q.numbers g))
  unfolding rule_of
  fair_frame g = record { byte = λ k x y. let b = displaced-byte g k x y in omega arith; most = λ e. (capped (frame_at q.numbers g).cap (scene_of q).strength e).by-curve }

  fair : Each (Fair (rule_of o (scene_of q)) (scene_of q)) (window_of q).others
  unfolding window_of
  fair = others_each q.bytes q.numbers q.centre _ (frame_count q.numbers) (λ g l d. fair_frame g)

  pub window-few : length (window_of q).others ≤ 1023
  unfolding window_of
  window-few = let n = others-count q.bytes q.numbers q.centre (frame_count q.numbers) legal.inside in omega (arith, legal.few)

  pub window_fair : Each (Fair (rule_of o (window_of q).scene) (window_of q).scene) (window_of q).others
  unfolding window_of
  window_fair = fair

  pub window-byte : (k x y : ℕ) → centre_at (window_of q).scene k x y < 256
  unfolding window_of
  window-byte = centre-byte

  module _ (out : List ℕ) (shows : Shows w h (centre_at (scene_of q)) out) where
    agree : Agree (packed_scene w h out) (scene_of q)
    unfolding packed_scene packed_picture scene_of
    agree =
        let size = legal.frames.size q.centre legal.inside in
        record {
          width = sym size.0;
          height = sym size.1;
          centre = λ k x y hk hx hy. packed-at _ (side_of k w) (side_of k h) out x y hx hy ∙ shows.at k x y hk hx hy;
        }

    module _ (k x y : ℕ) (hk : k < 3) (hx : x < side_of k w) (hy : y < side_of k h) where
      total_is : 16 + sum_over (λ f. other_share o (tabulate 256 (weight_read q.strength)) (packed_scene w h out) f k x y) (others_of q.bytes q.numbers q.centre (frame_count q.numbers))
          ≡ total_at (rule_of o (scene_of q)) (window_of q) k x y
      unfolding total_at total_weight window_of packed_scene scene_of
      total_is =
          ap (λ (t : ℕ). 16 + t)
          (sum_over-same _ _ (others_of q.bytes q.numbers q.centre (frame_count q.numbers))
          (λ f. share_joined o (packed_scene w h out) (scene_of q) agree f k x y hk hx hy (tabulate 256 (weight_read q.strength)) (curve-at q.strength)))

      sum_is : 16 * get_or out (place_of w h k x y) 0 + sum_over (λ f. other_term o (tabulate 256 (weight_read q.strength)) (packed_scene w h out) f k x y) (others_of q.bytes q.numbers q.centre (frame_count q.numbers))
          ≡ sum_at (rule_of o (scene_of q)) (window_of q) k x y
      unfolding sum_at weighted_sum window_of packed_scene scene_of
      sum_is =
          ap (λ (t : ℕ). 16 * t + sum_over (λ f. other_term o (tabulate 256 (weight_read q.strength)) (packed_scene w h out) f k x y) (others_of q.bytes q.numbers q.centre (frame_count q.numbers))) (shows.at k x y hk hx hy)
          ∙ ap (λ (t : ℕ). 16 * centre_at (scene_of q) k x y + t)
          (sum_over-same _ _ (others_of q.bytes q.numbers q.centre (frame_count q.numbers))
          (λ f. term_joined o (packed_scene w h out) (scene_of q) agree f k x y hk hx hy (tabulate 256 (weight_read q.strength)) (curve-at q.strength)))

    pub count_is : sum_over (other_blocks o (tabulate 256 (weight_read q.strength)) (packed_scene w h out)) (others_of q.bytes q.numbers q.centre (frame_count q.numbers))
        ≡ accepted_blocks (rule_of o (scene_of q)) (window_of q)
    unfolding accepted_blocks window_of
    count_is = sum_over-same _ _ _ (λ f. count_joined o (packed_scene w h out) (scene_of q) agree f (tabulate 256 (weight_read q.strength)))

    -- the working slices: seeded, then raised
    module _ (old seeded raised : List ℕ) where
      pub sums_show : Front (packed_size w h) (λ k. 16 * get_or out k 0) old seeded
          → Spread w h (λ k x y. sum_over (λ f. other_term o (tabulate 256 (weight_read q.strength)) (packed_scene w h out) f k x y) (others_of q.bytes q.numbers q.centre (frame_count q.numbers))) seeded raised
          → Shows w h (sum_at (rule_of o (scene_of q)) (window_of q)) raised
      sums_show g s =
          record {
            at = λ k x y hk hx hy.
                rw (g.within (place_of w h k x y) (place-below w h (centre_at (scene_of q)) k x y hk hx hy)) at (s.at k x y hk hx hy)
                ∙ sum_is k x y hk hx hy;
          }

      pub weights_show : Front (packed_size w h) (λ k. 16) old seeded
          → Spread w h (λ k x y. sum_over (λ f. other_share o (tabulate 256 (weight_read q.strength)) (packed_scene w h out) f k x y) (others_of q.bytes q.numbers q.centre (frame_count q.numbers))) seeded raised
          → Shows w h (total_at (rule_of o (scene_of q)) (window_of q)) raised
      weights_show g s =
          record {
            at = λ k x y hk hx hy.
                rw (g.within (place_of w h k x y) (place-below w h (centre_at (scene_of q)) k x y hk hx hy)) at (s.at k x y hk hx hy)
                ∙ total_is k x y hk hx hy;
          }

  -- what the resolving asks, and what it leaves
  module _ (sums weights : List ℕ) (s : Shows w h (sum_at (rule_of o (scene_of q)) (window_of q)) sums) (t : Shows w h (total_at (rule_of o (scene_of q)) (window_of q)) weights) where
    ready_at : (k x y : ℕ) → Ready (sum_at (rule_of o (scene_of q)) (window_of q) k x y) (total_at (rule_of o (scene_of q)) (window_of q) k x y)
    unfolding window_of
    ready_at k x y =
        let b = sample-byte (rule_of o (scene_of q)) (window_of q) k x y fair (centre-byte k x y) in
        let m = total-most (rule_of o (scene_of q)) (window_of q) k x y fair (centre-byte k x y) window-few in
        let n = sum-most (rule_of o (scene_of q)) (window_of q) k x y fair (centre-byte k x y) window-few in
        record { some = total-some (rule_of o (scene_of q)) (window_of q) k x y; small = omega arith; byte = unfold denoised_at in b }

    pub ready : (i : ℕ) → i < packed_size w h → Ready (get_or sums i 0) (get_or weights i 0)
    ready i less =
        let p = found w h i legal.wide.0 less in
        rw (sym p.is) (rw (s.at p.k p.x p.y p.plane p.column p.row) (rw (t.at p.k p.x p.y p.plane p.column p.row) (ready_at p.k p.x p.y)))

    pub output_shows : (old now : List ℕ) → Front (packed_size w h) (λ k. denoised (get_or sums k 0) (get_or weights k 0)) old now
        → Shows w h (denoised_at (rule_of o (scene_of q)) (window_of q)) now
    output_shows old now g =
        record {
          at = λ k x y hk hx hy.
              g.within (place_of w h k x y) (place-below w h (centre_at (scene_of q)) k x y hk hx hy)
              ∙ ap (λ (a : ℕ). denoised a (get_or weights (place_of w h k x y) 0)) (s.at k x y hk hx hy)
              ∙ ap (λ (a : ℕ). denoised (sum_at (rule_of o (scene_of q)) (window_of q) k x y) a) (t.at k x y hk hx hy)
              ∙ (unfold denoised_at in refl);
        }
