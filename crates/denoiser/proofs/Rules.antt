-- Two rules that take each other frame of a window alike make the same of it: the promise under one is that under the other; and where
-- the centre is only cropped, no rule is asked. Assumes nothing.
use Rattle.std.specs.Prelude.{Result}
use Rattle.std.proofs.Common.{◌≡◌, refl, ap, ◌∙◌, Bool, true, false, cond, List, ◌++◌, ℕ, zero, suc, ◌+◌, ◌*◌, ◌/◌, ◌%◌, ◌<◌, mod-lt, div-lt_iff_lt-mul, arith, drop}
use Rattle.laws.specs.Outcome.{Outcome, first_of, after}
use Rattle.laws.specs.Sums.{sum_over}
use Rattle.laws.specs.Tabulate.{tabulate}
use Rattle.laws.proofs.Sums.{sum_same, sum_over_each}
use Rattle.laws.proofs.Tabulate.{tabulate-same}
use Rattle.laws.proofs.Each.{Each, each_map}
use Rattle.prediction.specs.Samples.{distance}
use Rattle.weights.specs.Blend.{total_weight, weighted_sum, denoised}
use Rattle.window.specs.declared.Refusal.{Refusal}
use Rattle.window.specs.Layout.{side_of, packed_size}
use Rattle.window.specs.Refusals.{build_lines}
use Rattle.denoiser.specs.declared.Built.{Built}
use Rattle.denoiser.specs.Grid.{grid_side, unit_of}
use Rattle.denoiser.specs.Window.{Other, Scene, Window, Rule, gate, centre_at, share_of, total_at, sum_at, denoised_at, accepted_in, accepted_blocks}
use Rattle.denoiser.specs.Demand.{Held, Demand3}
use Rattle.denoiser.specs.Build.{BuildInput, given_of, scene_of, window_of, cropped, plane_list, packed, filled, built_of, samples_of, outcome_of, output_after, working_after, BuildBy}
use Rattle.denoiser.proofs.Cover.{within-grid}

-- within the picture a frame is accepted at the same blocks, displaced to the same samples and weighed alike
pub record Alike {F : Type 0} (p q : Rule F) (s : Scene) (f : F) : Type 0 where
  pub accepts : (i j : ℕ) → i < grid_side s.height → j < grid_side s.width → p.accepts f i j ≡ q.accepts f i j
  pub sample : (k x y : ℕ) → x < side_of k s.width → y < side_of k s.height → p.sample f k x y ≡ q.sample f k x y
  pub weight : (e : ℕ) → p.weight f e ≡ q.weight f e

module _ {F : Type 0} (p q : Rule F) (s : Scene) where
  blocks_alike : (f : F) → Alike p q s f → accepted_in p s f ≡ accepted_in q s f
  unfolding accepted_in
  blocks_alike f a =
      sum_same _ _ (grid_side s.height) (λ i hi. sum_same _ _ (grid_side s.width) (λ j hj. ap (λ (t : Bool). gate t 1) (a.accepts i j hi hj)))

  module _ (k x y : ℕ) (hx : x < side_of k s.width) (hy : y < side_of k s.height) where
    share_alike : (f : F) → Alike p q s f → share_of p s f k x y ≡ share_of q s f k x y
    unfolding share_of
    share_alike f a =
        ap (λ (t : Bool). gate t (p.weight f (distance (p.sample f k x y) (centre_at s k x y))))
        (a.accepts (y / unit_of k) (x / unit_of k) (within-grid k s.height y hy) (within-grid k s.width x hx))
        ∙ ap (gate (q.accepts f (y / unit_of k) (x / unit_of k)))
        (a.weight (distance (p.sample f k x y) (centre_at s k x y)) ∙ ap (λ (t : ℕ). q.weight f (distance t (centre_at s k x y))) (a.sample k x y hx hy))

    term_alike : (f : F) → Alike p q s f → share_of p s f k x y * p.sample f k x y ≡ share_of q s f k x y * q.sample f k x y
    term_alike f a =
        ap (λ (t : ℕ). t * p.sample f k x y) (share_alike f a) ∙ ap (λ (t : ℕ). share_of q s f k x y * t) (a.sample k x y hx hy)

module _ {F : Type 0} (p q : Rule F) (w : Window F) (alike : Each (Alike p q w.scene) w.others) where
  pub count_alike : accepted_blocks p w ≡ accepted_blocks q w
  unfolding accepted_blocks
  count_alike = sum_over_each _ _ w.others (each_map (λ f a. blocks_alike p q w.scene f a) w.others alike)

  module _ (k x y : ℕ) (hx : x < side_of k w.scene.width) (hy : y < side_of k w.scene.height) where
    shares : sum_over (λ f. share_of p w.scene f k x y) w.others ≡ sum_over (λ f. share_of q w.scene f k x y) w.others
    shares = sum_over_each _ _ w.others (each_map (λ f a. share_alike p q w.scene k x y hx hy f a) w.others alike)

    terms : sum_over (λ f. share_of p w.scene f k x y * p.sample f k x y) w.others
        ≡ sum_over (λ f. share_of q w.scene f k x y * q.sample f k x y) w.others
    terms = sum_over_each _ _ w.others (each_map (λ f a. term_alike p q w.scene k x y hx hy f a) w.others alike)

    pub total_alike : total_at p w k x y ≡ total_at q w k x y
    unfolding total_at total_weight
    total_alike = ap (λ (t : ℕ). 16 + t) shares

    pub sum_alike : sum_at p w k x y ≡ sum_at q w k x y
    unfolding sum_at weighted_sum
    sum_alike = ap (λ (t : ℕ). 16 * centre_at w.scene k x y + t) terms

    pub denoised_alike : denoised_at p w k x y ≡ denoised_at q w k x y
    unfolding denoised_at
    denoised_alike =
        ap (λ (t : ℕ). denoised t (total_at p w k x y)) sum_alike ∙ ap (λ (t : ℕ). denoised (sum_at q w k x y) t) total_alike

  pub demand_alike : (held : Held) → Demand3 p w held → Demand3 q w held
  unfolding Demand3 share_of
  demand_alike held d k x y hk hx hy =
      let v = d k x y hk hx hy in
      record {
        total = v.total ∙ ap (λ (t : ℕ). 16 + t) (shares k x y hx hy);
        sum = v.sum ∙ ap (λ (t : ℕ). 16 * centre_at w.scene k x y + t) (terms k x y hx hy);
        sample = v.sample;
        share = λ f. refl;
        bound = v.bound;
      }

-- what is packed goes by the samples in the planes
plane-same : (c r : ℕ) (f g : ℕ → ℕ → ℕ) → ((x y : ℕ) → x < c → y < r → f x y ≡ g x y)
    → tabulate (c * r) (λ i. f (i % c) (i / c)) ≡ tabulate (c * r) (λ i. g (i % c) (i / c))
plane-same zero r f g e = tabulate-same (zero * r) _ _ (λ i less. absurd (omega arith))
plane-same (suc c) r f g e =
    let some : 0 < suc c = omega arith in
    tabulate-same (suc c * r) _ _ (λ i less. e (i % suc c) (i / suc c) (mod-lt i some) ((div-lt_iff_lt-mul some).1 (omega arith)))

module _ (s : Scene) (f g : ℕ → ℕ → ℕ → ℕ) (e : (k x y : ℕ) → x < side_of k s.width → y < side_of k s.height → f k x y ≡ g k x y) where
  list_same : (k : ℕ) → plane_list s.width s.height f k ≡ plane_list s.width s.height g k
  list_same k = plane-same (side_of k s.width) (side_of k s.height) (f k) (g k) (e k)

  filled-same : (old : List ℕ) → filled s f old ≡ filled s g old
  unfolding filled packed
  filled-same old =
      ap (λ (l : List ℕ). (l ++ (plane_list s.width s.height f 1 ++ plane_list s.width s.height f 2)) ++ drop (packed_size s.width s.height) old) (list_same 0)
      ∙ ap (λ (l : List ℕ). (plane_list s.width s.height g 0 ++ (l ++ plane_list s.width s.height f 2)) ++ drop (packed_size s.width s.height) old) (list_same 1)
      ∙ ap (λ (l : List ℕ). (plane_list s.width s.height g 0 ++ (plane_list s.width s.height g 1 ++ l)) ++ drop (packed_size s.width s.height) old) (list_same 2)

-- of a builder call
module _ (p q : Scene → Rule Other) (b : BuildInput)
    (alike : Each (Alike (p (scene_of b.request)) (q (scene_of b.request)) (window_of b.request).scene) (window_of b.request).others) where
  outcome_alike : outcome_of p b ≡ outcome_of q b
  unfolding outcome_of built_of
  outcome_alike =
      ap (λ (n : ℕ). first_of (build_lines (given_of b))
      (record { width = (scene_of b.request).width; height = (scene_of b.request).height; accepted = cond (cropped b.request) 0 n }))
      (count_alike (p (scene_of b.request)) (q (scene_of b.request)) (window_of b.request) alike)

  samples_alike : (k x y : ℕ) → x < side_of k (scene_of b.request).width → y < side_of k (scene_of b.request).height
      → samples_of p b.request k x y ≡ samples_of q b.request k x y
  unfolding samples_of window_of
  samples_alike k x y hx hy = by (cropped b.request)
    where
      by : (t : Bool) → cond t (centre_at (scene_of b.request)) (denoised_at (p (scene_of b.request)) (window_of b.request)) k x y
          ≡ cond t (centre_at (scene_of b.request)) (denoised_at (q (scene_of b.request)) (window_of b.request)) k x y
      by true = refl
      by false = denoised_alike (p (scene_of b.request)) (q (scene_of b.request)) (window_of b.request) alike k x y hx hy

  output_alike : output_after p b ≡ output_after q b
  unfolding output_after
  output_alike =
      ap (λ (o : Outcome Built). after o b.lent.output (filled (scene_of b.request) (samples_of p b.request) b.lent.output)) outcome_alike
      ∙ ap (λ (l : List ℕ). after (outcome_of q b) b.lent.output l)
      (filled-same (scene_of b.request) (samples_of p b.request) (samples_of q b.request) samples_alike b.lent.output)

  working_alike : (f g : ℕ → ℕ → ℕ → ℕ) (old : List ℕ)
      → ((k x y : ℕ) → x < side_of k (scene_of b.request).width → y < side_of k (scene_of b.request).height → f k x y ≡ g k x y)
      → working_after p b f old ≡ working_after q b g old
  unfolding working_after
  working_alike f g old e =
      ap (λ (o : Outcome Built). after o old (cond (cropped b.request) old (filled (scene_of b.request) f old))) outcome_alike
      ∙ ap (λ (l : List ℕ). after (outcome_of q b) old (cond (cropped b.request) old l)) (filled-same (scene_of b.request) f g e old)

  pub build_alike : (r : Result Built Refusal) (held : Held) → BuildBy p b r held → BuildBy q b r held
  unfolding window_of
  build_alike r held l =
      let u = p (scene_of b.request) in
      let v = q (scene_of b.request) in
      record {
        answer = l.answer ∙ outcome_alike;
        slices =
            record {
              output = l.slices.output ∙ output_alike;
              sums = l.slices.sums ∙ working_alike _ _ b.lent.sums (sum_alike u v (window_of b.request) alike);
              weights = l.slices.weights ∙ working_alike _ _ b.lent.weights (total_alike u v (window_of b.request) alike);
              demand3 = λ a e t. demand_alike u v (window_of b.request) alike held (l.slices.demand3 a (outcome_alike ∙ e) t);
            };
      }

-- where the centre is only cropped, every rule's promise is the same
module _ (p q : Scene → Rule Other) (b : BuildInput) (crop : cropped b.request ≡ true) where
  outcome-cropped : outcome_of p b ≡ outcome_of q b
  unfolding outcome_of built_of
  outcome-cropped = rw crop

  pub build-cropped : (r : Result Built Refusal) (held : Held) → BuildBy p b r held → BuildBy q b r held
  unfolding output_after working_after samples_of
  build-cropped r held l =
      record {
        answer = l.answer ∙ outcome-cropped;
        slices =
            record {
              output = rw crop (rw (crop, outcome-cropped) at l.slices.output);
              sums = rw crop (rw (crop, outcome-cropped) at l.slices.sums);
              weights = rw crop (rw (crop, outcome-cropped) at l.slices.weights);
              demand3 = λ a e t. absurd (apart t);
            };
      }
    where
      apart : cropped b.request ≡ false → ⊥
      apart t = let z : ◌≡◌ {A = ℕ} 0 1 = cc in omega arith
