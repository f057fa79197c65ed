-- Frame order does not matter (request 11): two accepted calls of one builder, over any rule, on the same frames in any order.
-- Assumes nothing.
use Rattle.std.specs.Prelude.{Result, Ok}
use Rattle.std.proofs.Common.{◌≡◌, refl, sym, ap, ◌∙◌, Bool, false, cond, ◌||◌, List, ℕ, ◌+◌, ◌*◌, ◌<◌, le_refl, arith, leb-false, eqb, take, take_at}
use Rattle.std.proofs.Math.Path.{fun_ext}
use mathlib.Core.List.Perm
use Rattle.laws.specs.Front.{list_of}
use Rattle.laws.specs.Sums.{sum_over}
use Rattle.laws.specs.Outcome.{accepted}
use Rattle.laws.proofs.Sums.{sum-most, sum-least}
use Rattle.laws.proofs.Orders.{sum_order, sum-listed}
use Rattle.laws.proofs.Front.{after-accepted}
use Rattle.laws.proofs.Outcome.{skipped, answered}
use Rattle.weights.specs.Blend.{total_weight, weighted_sum, denoised}
use Rattle.window.specs.declared.Refusal.{Refusal}
use Rattle.window.specs.declared.Frame.{Frame}
use Rattle.window.specs.Layout.{packed_size}
use Rattle.window.specs.Frames.{frame_count, frame_at}
use Rattle.window.specs.Refusals.{build_lines}
use Rattle.denoiser.specs.declared.Built.{Built}
use Rattle.denoiser.specs.Window.{Other, Scene, Rule, centre_at, share_of, total_at, sum_at, denoised_at, accepted_in, accepted_blocks, arnr_rule}
use Rattle.denoiser.specs.Chroma.{half_rule, three_rule}
use Rattle.denoiser.specs.Pictures.{picture_of, other_of}
use Rattle.denoiser.specs.Demand.{Held}
use Rattle.denoiser.specs.Build.{Request, asked, BuildInput, given_of, centre_frame, scene_of, window_of, cropped, packed, filled, built_of, samples_of, outcome_of}
use Rattle.denoiser.specs.Build.{build_outcome, output_after, working_after, LeavesBy, BuildBy, BuildIs, BuildHalf, BuildThree}
use Rattle.denoiser.specs.Order.{frame_list, SameFrames, SameBuild}
use Rattle.denoiser.proofs.Others.{split}
use Rattle.denoiser.proofs.Packs.{packed-long}

-- of two requests with the same frames
module _ (p q : Request) (same : SameFrames p q) where
  count_same : frame_count p.numbers ≡ frame_count q.numbers
  unfolding frame_list
  count_same =
      let a = ones p.numbers in
      let b = ones q.numbers in
      let c = sum_order (λ (g : Frame). 1) (frame_list p) (frame_list q) same.frames in
      omega arith
    where
      ones : (numbers : List ℕ) → sum_over (λ (g : Frame). 1) (list_of (frame_count numbers) (frame_at numbers)) ≡ frame_count numbers
      ones numbers =
          let n = frame_count numbers in
          let a = sum-listed (λ (g : Frame). 1) (frame_at numbers) n in
          let b = sum-most (λ g. 1) n 1 (λ g. le_refl 1) in
          let c = sum-least (λ g. 1) n 1 (λ g. le_refl 1) in
          omega arith

  -- both are only cropped, or neither is
  pub order_crop : cropped p ≡ cropped q
  unfolding cropped
  order_crop =
      ap (λ (n : ℕ). eqb n 1 || eqb p.strength 0) count_same
      ∙ ap (λ (n : ℕ). eqb (frame_count q.numbers) 1 || eqb n 0) same.strength

  scene_same : scene_of p ≡ scene_of q
  unfolding scene_of
  scene_same =
      ap (λ (l : List ℕ). seen l p.strength (centre_frame p)) same.bytes
      ∙ ap (λ (n : ℕ). seen q.bytes n (centre_frame p)) same.strength
      ∙ ap (λ (g : Frame). seen q.bytes q.strength g) same.centre
    where
      seen : List ℕ → ℕ → Frame → Scene
      seen l n g = record { width = g.width; height = g.height; strength = n; centre = picture_of l g }

-- and each centre index is below its frame count
module _ (p q : Request) (same : SameFrames p q) (in_p : p.centre < frame_count p.numbers) (in-q : q.centre < frame_count q.numbers) where
  -- a sum over the other frames: all frames' sums agree, and so do the centres' parts in them
  others_same : (f : Other → ℕ) → sum_over f (window_of p).others ≡ sum_over f (window_of q).others
  unfolding window_of frame_list
  others_same f =
      let a = split p.bytes p.numbers p.centre f (frame_count p.numbers) in_p in
      let b = split q.bytes q.numbers q.centre f (frame_count q.numbers) in-q in
      let all : sum_over (λ (g : Frame). f (other_of p.bytes g)) (frame_list p) ≡ sum_over (λ (g : Frame). f (other_of q.bytes g)) (frame_list q)
      = sum_order (λ (g : Frame). f (other_of p.bytes g)) (frame_list p) (frame_list q) same.frames
      ∙ ap (λ (l : List ℕ). sum_over (λ (g : Frame). f (other_of l g)) (frame_list q)) same.bytes in
      let centre : f (other_of p.bytes (centre_frame p)) ≡ f (other_of q.bytes (centre_frame q))
      = ap (λ (l : List ℕ). f (other_of l (centre_frame p))) same.bytes ∙ ap (λ (g : Frame). f (other_of q.bytes g)) same.centre in
      omega arith

  module _ (rule : Scene → Rule Other) where
    total-same : total_at (rule (scene_of p)) (window_of p) ≡ total_at (rule (scene_of q)) (window_of q)
    unfolding total_at total_weight window_of
    total-same =
        fun_ext (λ k. fun_ext (λ x. fun_ext (λ y.
        ap (λ (t : ℕ). 16 + t) (others_same (λ f. share_of (rule (scene_of p)) (scene_of p) f k x y))
        ∙ ap (λ (s : Scene). 16 + sum_over (λ f. share_of (rule s) s f k x y) (window_of q).others) (scene_same p q same))))

    sum_same : sum_at (rule (scene_of p)) (window_of p) ≡ sum_at (rule (scene_of q)) (window_of q)
    unfolding sum_at weighted_sum window_of
    sum_same =
        fun_ext (λ k. fun_ext (λ x. fun_ext (λ y.
        ap (λ (t : ℕ). 16 * centre_at (scene_of p) k x y + t) (others_same (λ f. share_of (rule (scene_of p)) (scene_of p) f k x y * (rule (scene_of p)).sample f k x y))
        ∙ ap (λ (s : Scene). 16 * centre_at s k x y + sum_over (λ f. share_of (rule s) s f k x y * (rule s).sample f k x y) (window_of q).others) (scene_same p q same))))

    accepted-same : accepted_blocks (rule (scene_of p)) (window_of p) ≡ accepted_blocks (rule (scene_of q)) (window_of q)
    unfolding accepted_blocks window_of
    accepted-same =
        others_same (accepted_in (rule (scene_of p)) (scene_of p))
        ∙ ap (λ (s : Scene). sum_over (accepted_in (rule s) s) (window_of q).others) (scene_same p q same)

    samples-same : samples_of rule p ≡ samples_of rule q
    unfolding samples_of denoised_at
    samples-same =
        ap (λ (t : Bool). cond t (centre_at (scene_of p)) (denoised_at (rule (scene_of p)) (window_of p))) (order_crop p q same)
        ∙ ap (λ (s : Scene). cond (cropped q) (centre_at s) (denoised_at (rule (scene_of p)) (window_of p))) (scene_same p q same)
        ∙ ap (λ (f : ℕ → ℕ → ℕ → ℕ). cond (cropped q) (centre_at (scene_of q)) (λ k x y. denoised (f k x y) (total_at (rule (scene_of p)) (window_of p) k x y))) sum_same
        ∙ ap (λ (f : ℕ → ℕ → ℕ → ℕ). cond (cropped q) (centre_at (scene_of q)) (λ k x y. denoised (sum_at (rule (scene_of q)) (window_of q) k x y) (f k x y))) total-same

    built-same : built_of rule p ≡ built_of rule q
    unfolding built_of
    built-same =
        ap (λ (s : Scene). made s (cropped p) (accepted_blocks (rule (scene_of p)) (window_of p))) (scene_same p q same)
        ∙ ap (λ (t : Bool). made (scene_of q) t (accepted_blocks (rule (scene_of p)) (window_of p))) (order_crop p q same)
        ∙ ap (made (scene_of q) (cropped q)) accepted-same
      where
        made : Scene → Bool → ℕ → Built
        made s t n = record { width = s.width; height = s.height; accepted = cond t 0 n }

-- what an accepted call says and leaves
module _ (rule : Scene → Rule Other) (b : BuildInput) (x : Built) (held : Held) (done : outcome_of rule b ≡ accepted x) (leaves : LeavesBy rule b held) where
  built_is : built_of rule b.request ≡ x
  unfolding outcome_of
  built_is = answered (build_lines (given_of b)) (built_of rule b.request) x done

  inside_is : b.request.centre < frame_count b.request.numbers
  unfolding outcome_of
  inside_is =
      leb-false (frame_count b.request.numbers) b.request.centre (skipped (build_lines (given_of b)) (built_of rule b.request) x done).0

  size_is : packed_size x.width x.height ≡ packed_size (scene_of b.request).width (scene_of b.request).height
  unfolding built_of
  size_is = ap (λ (a : Built). packed_size a.width a.height) (sym built_is)

  output_is : held.output ≡ filled (scene_of b.request) (samples_of rule b.request) b.lent.output
  unfolding output_after
  output_is = leaves.output ∙ after-accepted _ _ done

  working_is : (f : ℕ → ℕ → ℕ → ℕ) (old now : List ℕ) → now ≡ working_after rule b f old
      → now ≡ cond (cropped b.request) old (filled (scene_of b.request) f old)
  unfolding working_after
  working_is f old now e = e ∙ after-accepted _ _ done

  -- the first P entries of a slice that is filled
  front_is : (f : ℕ → ℕ → ℕ → ℕ) (old now : List ℕ) → now ≡ filled (scene_of b.request) f old
      → take (packed_size x.width x.height) now ≡ packed (scene_of b.request).width (scene_of b.request).height f
  unfolding filled
  front_is f old now e =
      let s = scene_of b.request in
      ap (λ (n : ℕ). take n now) size_is
      ∙ ap (take (packed_size s.width s.height)) e
      ∙ take_at (packed s.width s.height f) _ (packed_size s.width s.height) (packed-long s.width s.height f)

-- two calls that are accepted, by their outcomes and what they leave
module _ (rule : Scene → Rule Other) (b c : BuildInput) (x y : Built) (held kept : Held) (done : outcome_of rule b ≡ accepted x) (also : outcome_of rule c ≡ accepted y)
    (leaves : LeavesBy rule b held) (too : LeavesBy rule c kept) (same : SameFrames b.request c.request) where
  in_b : b.request.centre < frame_count b.request.numbers
  in_b = inside_is rule b x held done leaves

  in_c : c.request.centre < frame_count c.request.numbers
  in_c = inside_is rule c y kept also too

  answer-same : x ≡ y
  answer-same = sym (built_is rule b x held done leaves) ∙ built-same b.request c.request same in_b in_c rule ∙ built_is rule c y kept also too

  scenes : scene_of b.request ≡ scene_of c.request
  scenes = scene_same b.request c.request same

  crops : cropped b.request ≡ cropped c.request
  crops = order_crop b.request c.request same

  entries_same : (f g : ℕ → ℕ → ℕ → ℕ) → f ≡ g → (old older now then : List ℕ)
      → now ≡ filled (scene_of b.request) f old → then ≡ filled (scene_of c.request) g older
      → take (packed_size x.width x.height) now ≡ take (packed_size x.width x.height) then
  entries_same f g e old older now then is was =
      front_is rule b x held done leaves f old now is
      ∙ ap (λ (t : Scene). packed t.width t.height f) scenes
      ∙ ap (packed (scene_of c.request).width (scene_of c.request).height) e
      ∙ sym (front_is rule c y kept also too g older then was)
      ∙ ap (λ (a : Built). take (packed_size a.width a.height) then) (sym answer-same)

  working_same : (f g : ℕ → ℕ → ℕ → ℕ) → f ≡ g → (old older now then : List ℕ)
      → now ≡ working_after rule b f old → then ≡ working_after rule c g older → cropped b.request ≡ false
      → take (packed_size x.width x.height) now ≡ take (packed_size x.width x.height) then
  working_same f g e old older now then is was crop =
      entries_same f g e old older now then
      (working_is rule b x held done leaves f old now is ∙ ap (λ (t : Bool). cond t old (filled (scene_of b.request) f old)) crop)
      (working_is rule c y kept also too g older then was ∙ ap (λ (t : Bool). cond t older (filled (scene_of c.request) g older)) (sym crops ∙ crop))

  pub outcome_order : SameBuild (cropped b.request) x y held kept
  outcome_order =
      record {
        answer = answer-same;
        output =
            entries_same (samples_of rule b.request) (samples_of rule c.request) (samples-same b.request c.request same in_b in_c rule)
            b.lent.output c.lent.output held.output kept.output (output_is rule b x held done leaves) (output_is rule c y kept also too);
        sums =
            working_same _ _ (sum_same b.request c.request same in_b in_c rule)
            b.lent.sums c.lent.sums held.sums kept.sums leaves.sums too.sums;
        weights =
            working_same _ _ (total-same b.request c.request same in_b in_c rule)
            b.lent.weights c.lent.weights held.weights kept.weights leaves.weights too.weights;
      }

  -- slices that held the same before the two calls hold the same after them, all entries
  pub outcome-whole : b.lent ≡ c.lent → held ≡ kept
  unfolding working_after
  outcome-whole lent =
      let output : held.output ≡ kept.output
      = output_is rule b x held done leaves
      ∙ filled-same (samples-same b.request c.request same in_b in_c rule) (ap (λ (h : Held). h.output) lent)
      ∙ sym (output_is rule c y kept also too) in
      let sums : held.sums ≡ kept.sums
      = working_whole _ _ (sum_same b.request c.request same in_b in_c rule) _ _ (ap (λ (h : Held). h.sums) lent) _ _ leaves.sums too.sums in
      let weights : held.weights ≡ kept.weights
      = working_whole _ _ (total-same b.request c.request same in_b in_c rule) _ _ (ap (λ (h : Held). h.weights) lent) _ _ leaves.weights too.weights in
      ap (λ (l : List ℕ). holding l held.sums held.weights) output
      ∙ ap (λ (l : List ℕ). holding kept.output l held.weights) sums
      ∙ ap (λ (l : List ℕ). holding kept.output kept.sums l) weights
    where
      holding : List ℕ → List ℕ → List ℕ → Held
      holding o s w = record { output = o; sums = s; weights = w }

      filled-same : {f g : ℕ → ℕ → ℕ → ℕ} → f ≡ g → {old older : List ℕ} → old ≡ older
          → filled (scene_of b.request) f old ≡ filled (scene_of c.request) g older
      filled-same {f} {g} e {old} {older} l =
          ap (λ (s : Scene). filled s f old) scenes
          ∙ ap (λ (h : ℕ → ℕ → ℕ → ℕ). filled (scene_of c.request) h old) e
          ∙ ap (filled (scene_of c.request) g) l

      working_whole : (f g : ℕ → ℕ → ℕ → ℕ) → f ≡ g → (old older : List ℕ) → old ≡ older → (now then : List ℕ)
          → now ≡ working_after rule b f old → then ≡ working_after rule c g older → now ≡ then
      working_whole f g e old older l now then is was =
          working_is rule b x held done leaves f old now is
          ∙ ap (λ (t : Bool). cond t old (filled (scene_of b.request) f old)) crops
          ∙ ap (λ (k : List ℕ). cond (cropped c.request) k (filled (scene_of b.request) f old)) l
          ∙ ap (λ (k : List ℕ). cond (cropped c.request) older k) (filled-same e l)
          ∙ sym (working_is rule c y kept also too g older then was)

-- what is said of a builder by its promise: two calls that are accepted, whatever their lent slices hold and however long these are, on
-- the same frames in any order, give the same build
abbrev pub AnyOrder : (BuildInput → Result Built Refusal → Held → Type 0) → Type 0
AnyOrder Promise =
    (b c : BuildInput) (r s : Result Built Refusal) (held kept : Held) → Promise b r held → Promise c s kept → SameFrames b.request c.request
    → (x y : Built) → r ≡ Ok x → s ≡ Ok y → SameBuild (cropped b.request) x y held kept

-- whatever the rule
pub frame_order : (rule : Scene → Rule Other) → AnyOrder (BuildBy rule)
frame_order rule b c r s held kept one other same x y done also =
    outcome_order rule b c x y held kept (sym one.answer ∙ ap build_outcome done) (sym other.answer ∙ ap build_outcome also) one.slices other.slices same

pub order_first : AnyOrder BuildIs
order_first = frame_order arnr_rule

pub order_half : AnyOrder BuildHalf
order_half = frame_order half_rule

pub order_three : (half : Bool) → AnyOrder (BuildThree half)
order_three half = frame_order (three_rule half)

-- slices that held the same before the two calls hold the same after them, all entries, also where the centre is only cropped
pub order_whole : (rule : Scene → Rule Other) (b c : BuildInput) (r s : Result Built Refusal) (held kept : Held) → BuildBy rule b r held → BuildBy rule c s kept
    → SameFrames b.request c.request → b.lent ≡ c.lent → (x y : Built) → r ≡ Ok x → s ≡ Ok y → held ≡ kept
order_whole rule b c r s held kept one other same lent x y done also =
    outcome-whole rule b c x y held kept (sym one.answer ∙ ap build_outcome done) (sym other.answer ∙ ap build_outcome also) one.slices other.slices same lent

-- one list, and two centre indices whose records are equal
pub order_index : (rule : Scene → Rule Other) (bytes numbers : List ℕ) (i j strength : ℕ) (lent given : Held) (r s : Result Built Refusal) (held kept : Held)
    → BuildBy rule (record { request = asked bytes numbers i strength; lent = lent }) r held
    → BuildBy rule (record { request = asked bytes numbers j strength; lent = given }) s kept
    → frame_at numbers i ≡ frame_at numbers j → (x y : Built) → r ≡ Ok x → s ≡ Ok y → SameBuild (cropped (asked bytes numbers i strength)) x y held kept
unfolding frame_list
order_index rule bytes numbers i j strength lent given r s held kept one other e x y done also =
    let q = asked bytes numbers i strength in
    frame_order rule _ _ r s held kept one other (record { bytes = refl; strength = refl; centre = e; frames = Perm.refl (frame_list q) }) x y done also
