-- Claims of document 01 on the grid, the block search, chroma halves, acceptance and shares, each a law; how large sums and
-- totals can be; and the claims of request 7 on caps and of request 6 on half samples. Assumes nothing.
use Rattle.std.specs.Prelude.{Result, Ok}
use Rattle.std.proofs.Common.{◌≡◌, refl, sym, ap, ◌∙◌, subst, true, false, List, ℕ, zero, suc, ◌+◌, ◌*◌, ◌/◌, ◌≤◌, ◌<◌, min, arith, lt-ltb, le-ltb, ℤ, pos, length, get_or}
use Rattle.std.proofs.Math.Path.{fun_ext}
use Rattle.laws.specs.Signed.{above, below}
use Rattle.laws.proofs.Signed.{quot}
use Rattle.laws.specs.Sums.{sum_below, sum_over}
use Rattle.laws.specs.Outcome.{accepted, first_of}
use Rattle.laws.proofs.Each.{Each}
use Rattle.prediction.specs.Plane.{sample_at}
use Rattle.prediction.specs.Samples.{distance}
use Rattle.weights.specs.Weights.{weight_of, weight_read, capped_weight}
use Rattle.weights.proofs.Weights.{read_some, capped}
use Rattle.window.specs.declared.Refusal.{Refusal}
use Rattle.window.specs.declared.Frame.{Frame}
use Rattle.window.specs.declared.Size.{Size}
use Rattle.window.specs.Layout.{side_of}
use Rattle.window.specs.Frames.{frame_count, frame_at, plane_of}
use Rattle.window.specs.Refusals.{checks}
use Rattle.window.proofs.Caps as window
use Rattle.window.proofs.Caps.{plain_lines}
use Rattle.denoiser.specs.declared.Built.{Built}
use Rattle.denoiser.specs.declared.Block.{Block}
use Rattle.denoiser.specs.declared.Displacement.{Displacement}
use Rattle.denoiser.specs.Grid.{grid_block, grid_side, block_in, unit_of}
use Rattle.denoiser.specs.Search.{measured_by, block_search, displacement_in}
use Rattle.denoiser.specs.Internal.{Short}
use Rattle.denoiser.specs.Window.{Picture, Other, Scene, Rule, gate, centre_at, share_of, total_at, sum_at, accepted_in, accepted_blocks}
use Rattle.denoiser.specs.Window.{Window, denoised_at, displacement_of, sad_accepted, displaced_at, arnr_rule, plain_rule}
use Rattle.denoiser.specs.declared.Choice.{Choice}
use Rattle.denoiser.specs.Chroma.{chosen_sample, chosen_accepts, rule_of, whole_samples, half_rule}
use Rattle.denoiser.specs.Pictures.{picture_of, other_of, others_of}
use Rattle.denoiser.specs.Demand.{Held}
use Rattle.denoiser.specs.Build.{Request, BuildInput, given_of, centre_frame, scene_of, window_of, cropped, built_of, outcome_of, BuildBy}
use Rattle.denoiser.proofs.Answers.{legal}
use Rattle.denoiser.proofs.Blends.{window_fair, window-byte, window-few}
use Rattle.denoiser.proofs.Cover.{grid_lies, within-grid}
use Rattle.denoiser.proofs.Demands.{total-most, sum-most}
use Rattle.denoiser.proofs.Gates.{gate-most}
use Rattle.denoiser.proofs.Others.{others_each, others_same}
use Rattle.denoiser.proofs.Planes.{block-fits}
use Rattle.denoiser.proofs.Halves.{Even, half_even}
use Rattle.denoiser.proofs.Pictures.{picture-byte}
use Rattle.denoiser.proofs.Rules.{Alike, build_alike, build-cropped}
use Rattle.denoiser.proofs.Searches.{measured-short, measured-count, search_least, search_one}

-- (x, y) is in the block
pub record Covers (b : Block) (x y : ℕ) : Type 0 where
  pub left : b.x ≤ x
  pub right : x < b.x + b.columns
  pub top : b.y ≤ y
  pub bottom : y < b.y + b.rows

-- no block of the grid overhangs a plane, in chroma neither: an output coordinate is never clamped
pub never_overhangs : (k w h i j : ℕ) → 16 * i < h → 16 * j < w
    → ((block_in k (grid_block w h i j)).x + (block_in k (grid_block w h i j)).columns ≤ side_of k w)
    × ((block_in k (grid_block w h i j)).y + (block_in k (grid_block w h i j)).rows ≤ side_of k h)
never_overhangs k w h i j hi hj = let l = block-fits k (grid_block w h i j) w h (grid_lies w h i j hi hj) in (l.wide, l.high)

-- exactly one block covers each sample of each plane, the one in row y / unit and column x / unit of the grid: nothing is accumulated twice
pub record OneBlock (k w h x y : ℕ) : Type 0 where
  pub row : y / unit_of k < grid_side h
  pub column : x / unit_of k < grid_side w
  pub covers : Covers (block_in k (grid_block w h (y / unit_of k) (x / unit_of k))) x y
  pub only : (i j : ℕ) → Covers (block_in k (grid_block w h i j)) x y → (i ≡ y / unit_of k) × (j ≡ x / unit_of k)

pub one_block : (k w h x y : ℕ) → x < side_of k w → y < side_of k h → OneBlock k w h x y
one_block zero w h x y hx hy =
    record {
      row = within-grid zero h y hy;
      column = within-grid zero w x hx;
      covers = record { left = omega arith; right = omega arith; top = omega arith; bottom = omega arith };
      only = λ i j c. (omega (arith, c.top, c.bottom), omega (arith, c.left, c.right));
    }
one_block (suc k) w h x y hx hy =
    record {
      row = within-grid (suc k) h y hy;
      column = within-grid (suc k) w x hx;
      covers = record { left = omega arith; right = omega arith; top = omega arith; bottom = omega arith };
      only = λ i j c. (omega (arith, c.top, c.bottom), omega (arith, c.left, c.right));
    }

-- one search makes 33 comparisons: so many are measured, and the search is the best of these
pub comparisons : (cost : Displacement → ℕ) → length (measured_by cost) ≡ 33
comparisons cost = measured-count cost

-- the test against 15 never bites: every displacement that is measured is within 15
pub within_15 : (cost : Displacement → ℕ) → Each Short (measured_by cost)
within_15 cost = measured-short cost

-- the search's displacement has the least cost of all that are measured
pub least : (cost : Displacement → ℕ) → Each (λ d. cost (block_search cost) ≤ cost d) (measured_by cost)
least cost = search_least cost

-- and it is one of them: what holds of all that are measured holds of it
pub answer-measured : (cost : Displacement → ℕ) (P : Displacement → Type 0) → Each P (measured_by cost) → P (block_search cost)
answer-measured cost P e = search_one cost P e

-- in an accepted call, by any choice, a total weight is at most 16,384 and a sum at most 4,177,920
module _ (o : Choice) (b : BuildInput) (s : Size) (e : checks (given_of b) ≡ accepted s) (byte : (i : ℕ) → get_or b.request.bytes i 0 < 256) (k x y : ℕ) where
  pub total-limit : total_at (rule_of o (scene_of b.request)) (window_of b.request) k x y ≤ 16384
  unfolding window_of
  total-limit =
      let l = legal o b (Ok s) s (sym e) refl in
      total-most (rule_of o (scene_of b.request)) (window_of b.request) k x y (window_fair o b.request s.width s.height l byte)
      (window-byte o b.request s.width s.height l byte k x y) (window-few o b.request s.width s.height l byte)

  pub sum-limit : sum_at (rule_of o (scene_of b.request)) (window_of b.request) k x y ≤ 4177920
  unfolding window_of
  sum-limit =
      let l = legal o b (Ok s) s (sym e) refl in
      sum-most (rule_of o (scene_of b.request)) (window_of b.request) k x y (window_fair o b.request s.width s.height l byte)
      (window-byte o b.request s.width s.height l byte k x y) (window-few o b.request s.width s.height l byte)

-- a number halved toward zero: what it has above zero, and what it has below, is halved and rounded down
pub record Halves (v half : ℤ) : Type 0 where
  pub up : above half ≡ above v / 2
  pub dn : below half ≡ below v / 2

-- the chroma displacement is the luma displacement halved toward zero
pub chroma_halves : (k : ℕ) (d : Displacement) → Halves d.dx (displacement_in (suc k) d).dx × Halves d.dy (displacement_in (suc k) d).dy
chroma_halves k d =
    (record { up = (quot d.dx 2).up; dn = (quot d.dx 2).dn }, record { up = (quot d.dy 2).up; dn = (quot d.dy 2).dn })

-- a block is accepted below 13 times its area, and excluded from there on
pub accepted-below : (b : Block) (sad : ℕ) → sad < 13 * (b.columns * b.rows) → sad_accepted b sad ≡ true
accepted-below b sad h = lt-ltb sad (13 * (b.columns * b.rows)) h

pub excluded_from : (b : Block) (sad : ℕ) → 13 * (b.columns * b.rows) ≤ sad → sad_accepted b sad ≡ false
excluded_from b sad h = le-ltb sad (13 * (b.columns * b.rows)) h

-- a builder's share, with the strength's curve: where the frame's block is accepted, the lesser of its cap and w of the displaced sample's difference; else 0.
-- This and what follows on caps is over any choice; `arnr_rule` is that of `whole_samples` (`whole_choice`)
pub record CurveShare (o : Choice) (s : Scene) (f : Other) (k x y : ℕ) : Type 0 where
  pub taken : chosen_accepts o s f.picture (y / unit_of k) (x / unit_of k) ≡ true
      → share_of (rule_of o s) s f k x y ≡ min f.cap (weight_of (min s.strength 6) (distance (chosen_sample o s f.picture k x y) (centre_at s k x y)))
  pub left : chosen_accepts o s f.picture (y / unit_of k) (x / unit_of k) ≡ false → share_of (rule_of o s) s f k x y ≡ 0

pub curve_share_lem : (o : Choice) (s : Scene) (f : Other) (k x y : ℕ) → 0 < s.strength → CurveShare o s f k x y
unfolding share_of rule_of gate capped_weight
curve_share_lem o s f k x y h =
    record {
      taken = λ e. simp e (ap (min f.cap) (read_some s.strength (distance (chosen_sample o s f.picture k x y) (centre_at s k x y)) h));
      left = λ e. simp e;
    }

-- a share is at most the frame's cap, and at most the curve's weight
pub cap-least : (o : Choice) (s : Scene) (f : Other) (k x y : ℕ)
    → (share_of (rule_of o s) s f k x y ≤ f.cap)
    × (share_of (rule_of o s) s f k x y ≤ weight_read s.strength (distance (chosen_sample o s f.picture k x y) (centre_at s k x y)))
unfolding share_of rule_of
cap-least o s f k x y =
    let c = capped f.cap s.strength (distance (chosen_sample o s f.picture k x y) (centre_at s k x y)) in
    (gate-most _ _ _ c.by-cap, gate-most _ _ _ c.by-curve)

-- with cap 0 a frame has no share at any sample
pub cap-zero : (o : Choice) (s : Scene) (f : Other) (k x y : ℕ) → f.cap ≡ 0 → share_of (rule_of o s) s f k x y ≡ 0
cap-zero o s f k x y e = omega (arith, (cap-least o s f k x y).0)

-- a frame without its cap, and two requests that differ in caps alone
abbrev uncapped : Frame → Frame
uncapped f =
    record { width = f.width; height = f.height; y = f.y; u = f.u; v = f.v; luma_stride = f.luma_stride; chroma_stride = f.chroma_stride; cap = 0 }

pub record CapsApart (p q : Request) : Type 0 where
  pub bytes : p.bytes ≡ q.bytes
  pub centre : p.centre ≡ q.centre
  pub strength : p.strength ≡ q.strength
  pub count : frame_count p.numbers ≡ frame_count q.numbers
  pub frames : (g : ℕ) → uncapped (frame_at p.numbers g) ≡ uncapped (frame_at q.numbers g)

-- they have the same accepted count, and the same displacements
pub record SameBlocks (o : Choice) (p q : Request) : Type 0 where
  pub count : accepted_blocks (rule_of o (scene_of p)) (window_of p) ≡ accepted_blocks (rule_of o (scene_of q)) (window_of q)
  pub displacement : (g i j : ℕ) → displacement_of (scene_of p) (picture_of p.bytes (frame_at p.numbers g)) i j
      ≡ displacement_of (scene_of q) (picture_of q.bytes (frame_at q.numbers g)) i j

-- no picture looks at a cap
picture-uncapped : (bytes : List ℕ) (f : Frame) → picture_of bytes f ≡ picture_of bytes (uncapped f)
unfolding picture_of
picture-uncapped bytes f = fun_ext plane
  where
    plane : (k : ℕ) → sample_at (plane_of bytes f k) ≡ sample_at (plane_of bytes (uncapped f) k)
    plane zero = refl
    plane (suc zero) = refl
    plane (suc (suc k)) = refl

module _ (o : Choice) (p q : Request) (a : CapsApart p q) where
  picture-same : (g : ℕ) → picture_of p.bytes (frame_at p.numbers g) ≡ picture_of q.bytes (frame_at q.numbers g)
  picture-same g =
      picture-uncapped p.bytes (frame_at p.numbers g) ∙ ap (picture_of p.bytes) (a.frames g)
      ∙ sym (picture-uncapped p.bytes (frame_at q.numbers g)) ∙ ap (λ (l : List ℕ). picture_of l (frame_at q.numbers g)) a.bytes

  scene_same : scene_of p ≡ scene_of q
  unfolding scene_of
  scene_same =
      let centre-picture = ap (λ (c : ℕ). picture_of p.bytes (frame_at p.numbers c)) a.centre ∙ picture-same q.centre in
      let frame = ap (λ (c : ℕ). uncapped (frame_at p.numbers c)) a.centre ∙ a.frames q.centre in
      ap (λ (f : Frame). record { width = f.width; height = f.height; strength = p.strength; centre = picture_of p.bytes (frame_at p.numbers p.centre) }) frame
      ∙ ap (λ (n : ℕ). record { width = (centre_frame q).width; height = (centre_frame q).height; strength = n; centre = picture_of p.bytes (frame_at p.numbers p.centre) }) a.strength
      ∙ ap (λ (c : Picture). record { width = (centre_frame q).width; height = (centre_frame q).height; strength = q.strength; centre = c }) centre-picture

  blocks_of : (g : ℕ) → accepted_in (rule_of o (scene_of q)) (scene_of q) (other_of p.bytes (frame_at p.numbers g))
      ≡ accepted_in (rule_of o (scene_of q)) (scene_of q) (other_of q.bytes (frame_at q.numbers g))
  unfolding accepted_in rule_of
  blocks_of g =
      ap (λ (f : Picture). sum_below (λ i. sum_below (λ j. gate (chosen_accepts o (scene_of q) f i j) 1) (grid_side (scene_of q).width)) (grid_side (scene_of q).height)) (picture-same g)

  pub cap-count : SameBlocks o p q
  unfolding accepted_blocks window_of
  cap-count =
      record {
        count =
            ap (λ (s : Scene). sum_over (accepted_in (rule_of o s) s) (others_of p.bytes p.numbers p.centre (frame_count p.numbers))) scene_same
            ∙ ap (λ (c : ℕ). sum_over (accepted_in (rule_of o (scene_of q)) (scene_of q)) (others_of p.bytes p.numbers c (frame_count p.numbers))) a.centre
            ∙ ap (λ (n : ℕ). sum_over (accepted_in (rule_of o (scene_of q)) (scene_of q)) (others_of p.bytes p.numbers q.centre n)) a.count
            ∙ others_same p.bytes p.numbers q.bytes q.numbers q.centre (frame_count q.numbers) _ _ blocks_of;
        displacement = λ g i j.
            ap (λ (s : Scene). displacement_of s (picture_of p.bytes (frame_at p.numbers g)) i j) scene_same
            ∙ ap (λ (f : Picture). displacement_of (scene_of q) f i j) (picture-same g);
      }

-- where every cap is 16, what the builder promises is document 01's: the answer, the three slices and demand 3 are those without caps
pub every-cap_16 : (b : BuildInput) (r : Result Built Refusal) (held : Held)
    → ((g : ℕ) → g < frame_count b.request.numbers → (frame_at b.request.numbers g).cap ≡ 16)
    → BuildBy arnr_rule b r held → BuildBy plain_rule b r held
unfolding window_of arnr_rule plain_rule
every-cap_16 b r held caps = build_alike arnr_rule plain_rule b alike r held
  where
    alike : Each (Alike (arnr_rule (scene_of b.request)) (plain_rule (scene_of b.request)) (scene_of b.request)) (window_of b.request).others
    alike =
        others_each b.request.bytes b.request.numbers b.request.centre _ (frame_count b.request.numbers)
        (λ g l d.
        record {
          accepts = λ i j hi hj. refl;
          sample = λ k x y hx hy. refl;
          weight = λ e. (capped (frame_at b.request.numbers g).cap (scene_of b.request).strength e).whole (omega (arith, caps g l));
        })

-- where every cap is at most 16, the outcome is that of the seven lines of document 01
pub no_29 : (rule : Scene → Rule Other) (b : BuildInput)
    → ((g : ℕ) → g < frame_count b.request.numbers → (frame_at b.request.numbers g).cap ≤ 16)
    → outcome_of rule b ≡ first_of (plain_lines (given_of b)) (built_of rule b.request)
unfolding outcome_of
no_29 rule b caps = window.no_29 (given_of b) caps (built_of rule b.request)

-- by luma alone and without half samples the rule of a choice is the Rust's, with caps
pub whole_choice : (s : Scene) → rule_of whole_samples s ≡ arnr_rule s
unfolding rule_of arnr_rule chosen_sample chosen_accepts displaced_at
whole_choice s = refl

pub whole-build : (b : BuildInput) (r : Result Built Refusal) (held : Held) → BuildBy (rule_of whole_samples) b r held → BuildBy arnr_rule b r held
whole-build b r held = subst (λ (rule : Scene → Rule Other). BuildBy rule b r held) (fun_ext whole_choice)

-- under both rules Y is the same: shares, totals, sums and denoised samples; the accepted counts, the displacements and the weights are the same
pub record LumaSame (w : Window Other) : Type 0 where
  pub share : (f : Other) (x y : ℕ) → share_of (half_rule w.scene) w.scene f 0 x y ≡ share_of (arnr_rule w.scene) w.scene f 0 x y
  pub total : (x y : ℕ) → total_at (half_rule w.scene) w 0 x y ≡ total_at (arnr_rule w.scene) w 0 x y
  pub sum : (x y : ℕ) → sum_at (half_rule w.scene) w 0 x y ≡ sum_at (arnr_rule w.scene) w 0 x y
  pub sample : (x y : ℕ) → denoised_at (half_rule w.scene) w 0 x y ≡ denoised_at (arnr_rule w.scene) w 0 x y
  pub count : accepted_blocks (half_rule w.scene) w ≡ accepted_blocks (arnr_rule w.scene) w
  pub weight : (f : Other) (e : ℕ) → (half_rule w.scene).weight f e ≡ (arnr_rule w.scene).weight f e

pub luma_same : (w : Window Other) → LumaSame w
unfolding share_of total_at sum_at denoised_at accepted_blocks accepted_in rule_of arnr_rule chosen_sample chosen_accepts displaced_at
luma_same w =
    record {
      share = λ f x y. refl;
      total = λ x y. refl;
      sum = λ x y. refl;
      sample = λ x y. refl;
      count = refl;
      weight = λ f e. refl;
    }

-- where every displacement of every other frame is even in both components, both calls answer and leave the same
module _ (b : BuildInput) (byte : (i : ℕ) → get_or b.request.bytes i 0 < 256)
    (even : (g i j : ℕ) → g < frame_count b.request.numbers → (g ≡ b.request.centre → ⊥) → i < grid_side (scene_of b.request).height → j < grid_side (scene_of b.request).width
    → Even (displacement_of (scene_of b.request) (picture_of b.request.bytes (frame_at b.request.numbers g)) i j)) where
  even_sample : (g k x y : ℕ) → g < frame_count b.request.numbers → (g ≡ b.request.centre → ⊥)
      → x < side_of k (scene_of b.request).width → y < side_of k (scene_of b.request).height
      → (half_rule (scene_of b.request)).sample (other_of b.request.bytes (frame_at b.request.numbers g)) k x y
      ≡ (arnr_rule (scene_of b.request)).sample (other_of b.request.bytes (frame_at b.request.numbers g)) k x y
  unfolding rule_of arnr_rule chosen_sample displaced_at
  even_sample g zero x y l other hx hy = refl
  even_sample g (suc k) x y l other hx hy =
      let f = picture_of b.request.bytes (frame_at b.request.numbers g) in
      let d = displacement_of (scene_of b.request) f (y / 8) (x / 8) in
      (half_even d (f (suc k))
      (even g (y / 8) (x / 8) l other (within-grid (suc k) (scene_of b.request).height y hy) (within-grid (suc k) (scene_of b.request).width x hx))
      (λ u v. let h = picture-byte b.request.bytes (frame_at b.request.numbers g) byte (suc k) u v in omega arith)
      ).old k (pos x) (pos y)

  pub even_same : (r : Result Built Refusal) (held : Held) → BuildBy half_rule b r held → BuildBy arnr_rule b r held
  unfolding window_of rule_of arnr_rule chosen_accepts
  even_same r held = build_alike half_rule arnr_rule b alike r held
    where
      alike : Each (Alike (half_rule (scene_of b.request)) (arnr_rule (scene_of b.request)) (scene_of b.request)) (window_of b.request).others
      alike =
          others_each b.request.bytes b.request.numbers b.request.centre _ (frame_count b.request.numbers)
          (λ g l other.
          record { accepts = λ i j hi hj. refl; sample = λ k x y hx hy. even_sample g k x y l other hx hy; weight = λ e. refl })

-- where the centre is only cropped, both calls answer and leave the same, under any rule
pub crop-same : (b : BuildInput) (r : Result Built Refusal) (held : Held) → cropped b.request ≡ true → BuildBy half_rule b r held → BuildBy arnr_rule b r held
crop-same b r held crop = build-cropped half_rule arnr_rule b crop r held
