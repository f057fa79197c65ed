-- Claims of request 9: a block is accepted on all three planes together. Assumes nothing.
use Rattle.std.specs.Prelude.{Result}
use Rattle.std.proofs.Common.{◌≡◌, refl, sym, ap, ◌∙◌, Bool, true, false, cond, ◌&&◌, ℕ, zero, suc, ◌+◌, ◌-◌, ◌*◌, ◌/◌, ◌≤◌, ◌<◌, min, arith, lt-ltb, le-ltb, pos}
use Rattle.laws.proofs.Each.{Each}
use Rattle.laws.specs.Sums.{sum_below}
use Rattle.laws.proofs.Sums.{sum_same, sum_less, sum_over-less}
use Rattle.prediction.specs.Samples.{distance}
use Rattle.window.specs.declared.Refusal.{Refusal}
use Rattle.window.specs.Frames.{frame_count, frame_at}
use Rattle.denoiser.specs.declared.Built.{Built}
use Rattle.denoiser.specs.declared.Block.{Block}
use Rattle.denoiser.specs.declared.Choice.{Choice}
use Rattle.denoiser.specs.Grid.{grid_block, grid_side, block_in, unit_of}
use Rattle.denoiser.specs.Search.{sad_of}
use Rattle.denoiser.specs.Window.{Picture, Other, Scene, Window, gate, centre_at, share_of, accepted_in, accepted_blocks, cost_of, displacement_of, sad_accepted, block_accepted}
use Rattle.denoiser.specs.Chroma.{sample_in, plane_sad, plane_passes, three_accepted, chosen_accepts, chosen_sample, rule_of, three_planes, three_rule}
use Rattle.denoiser.specs.Pictures.{picture_of}
use Rattle.denoiser.specs.Demand.{Held}
use Rattle.denoiser.specs.Build.{Request, BuildInput, scene_of, window_of, cropped, built_of, BuildBy}
use Rattle.denoiser.proofs.Gates.{both}
use Rattle.denoiser.proofs.Join.{Agree, three_accepted-same}
use Rattle.denoiser.proofs.Others.{others_each}
use Rattle.denoiser.proofs.Rules.{Alike, build_alike}

-- the choice by luma alone with the same chroma rule: without half samples it is that of the first builder, with them that of the second
abbrev pub luma_alone : Bool → Choice
luma_alone half = record { half_sample = half; three_planes = false }

-- the area of a block in a plane, written out: bw times bh in Y, half of each rounded up in U and V
abbrev pub area_in : ℕ → Scene → ℕ → ℕ → ℕ
area_in zero s i j = min 16 (s.width - 16 * j) * min 16 (s.height - 16 * i)
area_in (suc k) s i j = (min 16 (s.width - 16 * j) + 1) / 2 * ((min 16 (s.height - 16 * i) + 1) / 2)

module _ (half : Bool) (s : Scene) (f : Picture) (i j : ℕ) where
  -- in Y the SAD is the search's last one
  pub plane-zero : plane_sad half s f i j 0 ≡ cost_of s f i j (displacement_of s f i j)
  unfolding plane_sad cost_of
  plane-zero = by half
    where
      by : (t : Bool) → plane_sad t s f i j 0 ≡ cost_of s f i j (displacement_of s f i j)
      by true = refl
      by false = refl

  -- so Y's test is the old one
  pub luma_passes : plane_passes half s f i j 0 ≡ block_accepted s f i j
  unfolding plane_passes block_accepted
  luma_passes = ap (sad_accepted (grid_block s.width s.height i j)) plane-zero

  -- a plane passes below 13 times its area, and not from there on
  pub plane-below : (k : ℕ) → plane_sad half s f i j k < 13 * area_in k s i j → plane_passes half s f i j k ≡ true
  unfolding plane_passes
  plane-below zero h = lt-ltb _ _ h
  plane-below (suc k) h = lt-ltb _ _ h

  pub plane_from : (k : ℕ) → 13 * area_in k s i j ≤ plane_sad half s f i j k → plane_passes half s f i j k ≡ false
  unfolding plane_passes
  plane_from zero h = le-ltb _ _ h
  plane_from (suc k) h = le-ltb _ _ h

  -- accepted on three planes, then accepted on luma
  pub three_luma : three_accepted half s f i j ≡ true → block_accepted s f i j ≡ true
  unfolding three_accepted
  three_luma e = sym luma_passes ∙ (both _ _ e).0

  -- accepted where each plane passes, and nowhere else
  pub each_passes : ((k : ℕ) → k < 3 → plane_passes half s f i j k ≡ true) → three_accepted half s f i j ≡ true
  unfolding three_accepted
  each_passes h = rw (h 0 (omega arith), h 1 (omega arith), h 2 (omega arith))

  pub one_fails : (k : ℕ) → k < 3 → plane_passes half s f i j k ≡ false → three_accepted half s f i j ≡ false
  unfolding three_accepted
  one_fails zero h e = rw e
  one_fails (suc zero) h e = rw e (never (plane_passes half s f i j 0))
    where
      never : (t : Bool) → (t && false) ≡ false
      never true = refl
      never false = refl
  one_fails (suc (suc zero)) h e = rw e (never (plane_passes half s f i j 0) (plane_passes half s f i j 1))
    where
      never : (t u : Bool) → (t && (u && false)) ≡ false
      never true true = refl
      never true false = refl
      never false u = refl
  one_fails (suc (suc (suc k))) h e = absurd (omega arith)

-- a plane's SAD is that of the centre's samples and of those that the same call blends
pub plane_blended : (half : Bool) (s : Scene) (f : Other) (i j k : ℕ)
    → plane_sad half s f.picture i j k
    ≡ sum_below (λ r. sum_below (λ c.
    distance (centre_at s k ((block_in k (grid_block s.width s.height i j)).x + c) ((block_in k (grid_block s.width s.height i j)).y + r))
    ((three_rule half s).sample f k ((block_in k (grid_block s.width s.height i j)).x + c) ((block_in k (grid_block s.width s.height i j)).y + r)))
    (block_in k (grid_block s.width s.height i j)).columns) (block_in k (grid_block s.width s.height i j)).rows
unfolding plane_sad sad_of rule_of chosen_sample
plane_blended half s f i j k =
    sum_same _ _ b.rows (λ r hr. sum_same _ _ b.columns (λ c hc.
    ap (distance (centre_at s k (b.x + c) (b.y + r)))
    (ap (λ (a : ℕ). sample_in half k (displacement_of s f.picture a j) (f.picture k) (pos (b.x + c)) (pos (b.y + r))) (sym (row k r hr))
    ∙ ap (λ (e : ℕ). sample_in half k (displacement_of s f.picture ((b.y + r) / unit_of k) e) (f.picture k) (pos (b.x + c)) (pos (b.y + r))) (sym (column k c hc)))))
  where
    b : Block
    b = block_in k (grid_block s.width s.height i j)

    column : (p c : ℕ) → c < (block_in p (grid_block s.width s.height i j)).columns → ((block_in p (grid_block s.width s.height i j)).x + c) / unit_of p ≡ j
    column zero c h = omega arith
    column (suc p) c h = omega arith

    row : (p r : ℕ) → r < (block_in p (grid_block s.width s.height i j)).rows → ((block_in p (grid_block s.width s.height i j)).y + r) / unit_of p ≡ i
    row zero r h = omega arith
    row (suc p) r h = omega arith

-- a block that one plane excludes adds nothing to any of the three planes, Y too, and is not counted
pub record NoShare (half : Bool) (s : Scene) (f : Other) (k x y : ℕ) : Type 0 where
  pub share : share_of (three_rule half s) s f k x y ≡ 0
  pub term : share_of (three_rule half s) s f k x y * (three_rule half s).sample f k x y ≡ 0
  pub count : gate ((three_rule half s).accepts f (y / unit_of k) (x / unit_of k)) 1 ≡ 0

pub three_none : (half : Bool) (s : Scene) (f : Other) (k x y p : ℕ) → p < 3 → plane_passes half s f.picture (y / unit_of k) (x / unit_of k) p ≡ false
    → NoShare half s f k x y
unfolding share_of rule_of chosen_accepts gate
three_none half s f k x y p less e = record { share = share; term = ap (λ (n : ℕ). n * (three_rule half s).sample f k x y) share ∙ omega arith; count = count }
  where
    excluded : three_accepted half s f.picture (y / unit_of k) (x / unit_of k) ≡ false
    excluded = one_fails half s f.picture (y / unit_of k) (x / unit_of k) p less e

    share : share_of (three_rule half s) s f k x y ≡ 0
    share = rw excluded

    count : gate ((three_rule half s).accepts f (y / unit_of k) (x / unit_of k)) 1 ≡ 0
    count = rw excluded

-- the accepted count is at most that of the builder with the same chroma rule that looks at luma alone
gate-less : (t u : Bool) → (t ≡ true → u ≡ true) → gate t 1 ≤ gate u 1
unfolding gate
gate-less true u h = rw (h refl) (omega arith)
gate-less false u h = omega arith

blocks-less : (half : Bool) (w : Window Other) → accepted_blocks (three_rule half w.scene) w ≤ accepted_blocks (rule_of (luma_alone half) w.scene) w
unfolding accepted_blocks accepted_in rule_of chosen_accepts
blocks-less half w =
    sum_over-less _ _ w.others (λ f. sum_less _ _ (grid_side w.scene.height) (λ i. sum_less _ _ (grid_side w.scene.width) (λ j.
    gate-less _ _ (three_luma half w.scene f.picture i j))))

pub three_count : (half : Bool) (q : Request) → (built_of (three_rule half) q).accepted ≤ (built_of (rule_of (luma_alone half)) q).accepted
unfolding built_of window_of
three_count half q = by (cropped q)
  where
    by : (t : Bool) → cond t 0 (accepted_blocks (three_rule half (scene_of q)) (window_of q)) ≤ cond t 0 (accepted_blocks (rule_of (luma_alone half) (scene_of q)) (window_of q))
    by true = omega arith
    by false = blocks-less half (window_of q)

-- where U and V of every luma-accepted block of every other frame pass, the call leaves what the builder with the same chroma rule leaves
module _ (half : Bool) (b : BuildInput)
    (passes : (g i j k : ℕ) → g < frame_count b.request.numbers → (g ≡ b.request.centre → ⊥)
    → i < grid_side (scene_of b.request).height → j < grid_side (scene_of b.request).width
    → block_accepted (scene_of b.request) (picture_of b.request.bytes (frame_at b.request.numbers g)) i j ≡ true
    → 0 < k → k < 3 → plane_passes half (scene_of b.request) (picture_of b.request.bytes (frame_at b.request.numbers g)) i j k ≡ true) where
  accepts_alike : (g i j : ℕ) → g < frame_count b.request.numbers → (g ≡ b.request.centre → ⊥)
      → i < grid_side (scene_of b.request).height → j < grid_side (scene_of b.request).width
      → three_accepted half (scene_of b.request) (picture_of b.request.bytes (frame_at b.request.numbers g)) i j
      ≡ block_accepted (scene_of b.request) (picture_of b.request.bytes (frame_at b.request.numbers g)) i j
  accepts_alike g i j l other hi hj = by (block_accepted s f i j) refl
    where
      s : Scene
      s = scene_of b.request

      f : Picture
      f = picture_of b.request.bytes (frame_at b.request.numbers g)

      plane : block_accepted s f i j ≡ true → (k : ℕ) → k < 3 → plane_passes half s f i j k ≡ true
      plane e zero h = luma_passes half s f i j ∙ e
      plane e (suc k) h = passes g i j (suc k) l other hi hj e (omega arith) h

      by : (t : Bool) → block_accepted s f i j ≡ t → three_accepted half s f i j ≡ block_accepted s f i j
      by true e = each_passes half s f i j (plane e) ∙ sym e
      by false e = one_fails half s f i j 0 (omega arith) (luma_passes half s f i j ∙ e) ∙ sym e

  pub three_same : (r : Result Built Refusal) (held : Held) → BuildBy (three_rule half) b r held → BuildBy (rule_of (luma_alone half)) b r held
  unfolding window_of rule_of chosen_accepts chosen_sample
  three_same r held = build_alike (three_rule half) (rule_of (luma_alone half)) b alike r held
    where
      alike : Each (Alike (three_rule half (scene_of b.request)) (rule_of (luma_alone half) (scene_of b.request)) (scene_of b.request)) (window_of b.request).others
      alike =
          others_each b.request.bytes b.request.numbers b.request.centre _ (frame_count b.request.numbers)
          (λ g l other.
          record { accepts = λ i j hi hj. accepts_alike g i j l other hi hj; sample = λ k x y hx hy. refl; weight = λ e. refl })

-- acceptance depends on the frame, the centre frame and the size only
pub three_alone : (half : Bool) (a b : Scene) → Agree a b → (f : Picture) (i j : ℕ) → i < grid_side a.height → j < grid_side a.width
    → three_accepted half a f i j ≡ three_accepted half b f i j
three_alone half a b s f i j hi hj = three_accepted-same (three_planes half) a b s f half i j (omega arith) (omega arith)
