-- `arnr::accumulate::blend_frames` meets its contract. The loop's invariant: the first g frames but the centre are added, and their accepted blocks counted. Assumes nothing.
use Rattle.std.proofs.Common.{◌≡◌, sym, ap, ◌∙◌, subst, List, ℕ, ℤ, ◌+◌, ◌≤◌, arith, rules, mul-le-mul_right, le_trans}
use Rattle.laws.specs.Sums.{sum_over}
use Rattle.window.specs.declared.Frame.{Frame}
use Rattle.window.specs.Frames.{frame_at}
use Rattle.denoiser.specs.Window.{Other, accepted_in}
use Rattle.denoiser.specs.Pictures.{picture_of, other_of, others_of}
use Rattle.denoiser.specs.Internal.{Spread, packed_scene, curve_rule, curve_share, curve_term, capped_curve, other_share, other_term, other_blocks}
use Rattle.denoiser.proofs.Others.{others_none, others-more, others-centre, others-most}
use Rattle.denoiser.proofs.Pictures.{picture-byte, other_share_light, other_term_light}
use Rattle.denoiser.proofs.Spreads.{spread_none, spread_then, spread_same, spread_slack}
use Rattle.arnr.proofs.accumulate.blend_frames.Goals as goal

-- what holds at one size holds at an equal one
sized : (P : ℕ → ℕ → Type 0) {w w' h h' : ℕ} → w ≡ w' → h ≡ h' → P w h → P w' h'
sized P {w} {w'} {h} {h'} ew eh p = subst (λ (t : ℕ). P w' t) eh (subst (λ (t : ℕ). P t h) ew p)

sized_spread : (t : ℕ → ℕ → ℕ → ℕ → ℕ → ℕ) {w w' h h' : ℕ} {old now : List ℕ} → w ≡ w' → h ≡ h' → Spread w h (t w h) old now → Spread w' h' (t w' h') old now
sized_spread t {old = old} {now = now} ew eh p = sized (λ a b. Spread a b (t a b) old now) ew eh p

pub loop-g-init : goal.loop-g-init
loop-g-init c =
    let a = c.args in
    let none : (t : Other → ℕ) → sum_over t (others_of a.bytes.now a.numbers.now a.centre 0) ≡ 0 = others_none a.bytes.now a.numbers.now a.centre in
    record { total = sym (none _); few = search rules; sums = spread_none _ _ _ _ (λ k x y hx hy. none _); weights = spread_none _ _ _ _ (λ k x y hx hy. none _) }

pub loop-g-preserved-then-g-centre : goal.loop-g-preserved-then-g-centre
loop-g-preserved-then-g-centre c =
    let i = c.loop-g.invariant in
    let g = c.loop-g.g in
    let a = c.args in
    let past : (f : Other → ℕ) → sum_over f (others_of a.bytes.now a.numbers.now a.centre g) ≡ sum_over f (others_of a.bytes.now a.numbers.now a.centre (g + 1))
    = λ f. sym (others-centre a.bytes.now a.numbers.now a.centre f g c.if-g-centre.true) in
    record {
      total = i.total ∙ past _;
      few = omega (arith, i.few);
      sums = spread_same a.w a.h _ i.sums (λ k x y hk hx hy. past _);
      weights = spread_same a.w a.h _ i.weights (λ k x y hk hx hy. past _);
    }

pub blend_frame-total-requires-clause-slack : goal.blend_frame-total-requires-clause-slack
blend_frame-total-requires-clause-slack c =
    let byte : (g k : ℕ) (a b : ℤ) → picture_of c.args.bytes.now (frame_at c.args.numbers.now g) k a b ≤ 255 = λ g. picture-byte c.args.bytes.now (frame_at c.args.numbers.now g) (λ i. search rules) in
    let i = c.loop-g.invariant in
    let g = c.loop-g.g in
    let few : g ≤ 1024 = omega (arith, c.requires.count_bound.0) in
    let light = c.args.curve.now.light in
    spread_slack c.args.w c.args.h i.sums i.weights 6 1024 c.requires.count_bound.1
    (λ k x y. le_trans (others-most c.args.bytes.now c.args.numbers.now c.args.centre _ 4080 g (λ g. other_term_light c.args.choice c.args.curve.now.at _ _ k x y light (byte g k))) (mul-le-mul_right 4080 few))
    (λ k x y. le_trans (others-most c.args.bytes.now c.args.numbers.now c.args.centre _ 16 g (λ g. other_share_light c.args.choice c.args.curve.now.at _ _ k x y light)) (mul-le-mul_right 16 few))
    c.requires.slack

pub loop-g-preserved : goal.loop-g-preserved
unfolding other_term other_share other_blocks
loop-g-preserved c =
    let i = c.loop-g.invariant in
    let g = c.loop-g.g in
    let a = c.args in
    let bytes = a.bytes.now in
    let numbers = a.numbers.now in
    let out = a.out.now in
    let f = frame_at numbers g in
    let cut = capped_curve a.curve.now.at f.cap in
    let size = c.requires.frames.size g c.loop-g-test.true in
    let cut-is : c.capped-cut.result.at ≡ cut = c.capped-cut.ensures ∙ ap (λ (f : Frame). capped_curve a.curve.now.at f.cap) c.frame_at-f.ensures in
    let done = rw cut-is at (rw c.frame_at-f.ensures at c.blend_frame-total.ensures) in
    let more : (t : Other → ℕ) → sum_over t (others_of bytes numbers a.centre g) + t (other_of bytes f) ≡ sum_over t (others_of bytes numbers a.centre (g + 1))
    = λ t. sym (others-more bytes numbers a.centre t g c.if-g-centre.false) in
    let new = c.blend_frame-total in
    let counted = sized (λ w h. new.result ≡ accepted_in (curve_rule a.choice cut (packed_scene w h out)) (packed_scene w h out) (picture_of bytes f)) size.0 size.1 done.value.0 in
    let terms = sized_spread (λ w h. curve_term a.choice cut (packed_scene w h out) (picture_of bytes f)) size.0 size.1 done.spread in
    let shares = sized_spread (λ w h. curve_share a.choice cut (packed_scene w h out) (picture_of bytes f)) size.0 size.1 done.spread_2 in
    record {
      total = ap (λ (t : ℕ). t + new.result) i.total ∙ ap (λ (t : ℕ). sum_over (other_blocks a.choice a.curve.now.at (packed_scene a.w a.h out)) (others_of bytes numbers a.centre g) + t) counted ∙ more _;
      few = omega (arith, i.few, done.value.1);
      sums = spread_then a.w a.h _ i.sums terms (λ k x y hx hy. more (λ p. other_term a.choice a.curve.now.at (packed_scene a.w a.h out) p k x y));
      weights = spread_then a.w a.h _ i.weights shares (λ k x y hx hy. more (λ p. other_share a.choice a.curve.now.at (packed_scene a.w a.h out) p k x y));
    }

pub returns : goal.returns
returns c =
    let g-is : c.loop-g.g ≡ c.args.count = omega arith in
    let v = rw g-is at c.loop-g.invariant in
    record { value = v.total; spread = v.sums; spread_2 = v.weights }
