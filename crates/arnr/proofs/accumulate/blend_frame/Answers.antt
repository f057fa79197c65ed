-- `arnr::accumulate::blend_frame` meets its contract. The loop's invariant: the first i rows of blocks are added, and their accepted ones counted. Assumes nothing.
use Rattle.std.proofs.Common.{◌≡◌, ℕ, ℤ, ◌/◌, ◌≤◌, ◌<◌, arith, rules}
use Rattle.laws.proofs.Sums.{sum_none, sum_more}
use Rattle.denoiser.specs.Grid.{grid_side, unit_of}
use Rattle.denoiser.specs.Window.{accepted_in}
use Rattle.denoiser.specs.Pictures.{picture_of}
use Rattle.denoiser.specs.Internal.{packed_scene, curve_rule}
use Rattle.denoiser.proofs.Cover.{within-grid}
use Rattle.denoiser.proofs.Gates.{gate-most, gate_step, gate-less, gate_none}
use Rattle.denoiser.proofs.Pictures.{picture-byte, share_light, term_light}
use Rattle.denoiser.proofs.Spreads.{spread_none, spread_then, spread_same, spread_slack}
use Rattle.arnr.proofs.accumulate.blend_frame.Goals as goal

pub loop-i-init : goal.loop-i-init
loop-i-init c = record {
  count = sum_none _;
  few = search rules;
  sums = spread_none _ _ _ _ (λ k x y hx hy. gate_none (y / unit_of k) _);
  weights = spread_none _ _ _ _ (λ k x y hx hy. gate_none (y / unit_of k) _);
}

pub blend_grid_row-count-requires-clause-slack : goal.blend_grid_row-count-requires-clause-slack
blend_grid_row-count-requires-clause-slack c =
    let wide : 0 < c.args.f.width = (c.requires.whole.fits 0 (omega arith)).wide.0 in
    let byte : (k : ℕ) (a b : ℤ) → picture_of c.args.bytes.now c.args.f k a b ≤ 255 = picture-byte c.args.bytes.now c.args.f (λ i. search rules) in
    let light = c.args.curve.now.light in
    let i = c.loop-i.invariant in
    spread_slack c.args.f.width c.args.f.height i.sums i.weights 5 1 wide
    (λ k x y. gate-most _ _ 4080 (term_light c.args.choice c.args.curve.now.at _ _ k x y light (byte k)))
    (λ k x y. gate-most _ _ 16 (share_light c.args.choice c.args.curve.now.at _ _ k x y light)) c.requires.slack

pub overflow_add-count : goal.overflow_add-count
overflow_add-count c =
    let f = c.requires.whole.fits 0 (omega arith) in omega (arith, f.wide.1, f.high.1, c.blend_grid_row-count.ensures.value.1, c.loop-i.invariant.few)

pub loop-i-preserved : goal.loop-i-preserved
loop-i-preserved c =
    let i = c.loop-i.invariant in
    let done = c.blend_grid_row-count.ensures in
    let wide : c.args.f.width ≤ 16383 = (c.requires.whole.fits 0 (omega arith)).wide.1 in
    record {
      count = sum_more _ c.loop-i.i _ c.loop-i.count i.count done.value.0;
      few = omega (arith, done.value.1, i.few);
      sums = spread_then c.args.f.width c.args.f.height _ i.sums done.spread (λ k x y hx hy. gate_step (y / unit_of k) c.loop-i.i _);
      weights = spread_then c.args.f.width c.args.f.height _ i.weights done.spread_2 (λ k x y hx hy. gate_step (y / unit_of k) c.loop-i.i _);
    }

pub returns : goal.returns
unfolding accepted_in curve_rule packed_scene
returns c =
    let high : c.args.f.height ≤ 16383 = (c.requires.whole.fits 0 (omega arith)).high.1 in
    let w = c.args.f.width in
    let h = c.args.f.height in
    let i-is : c.loop-i.i ≡ grid_side h = omega arith in
    let v = rw i-is at c.loop-i.invariant in
    record { value = (v.count, omega (arith, v.few)); spread = spread_same w h _ v.sums (λ k x y hk hx hy. gate-less _ _ _ (within-grid k h y hy)); spread_2 = spread_same w h _ v.weights (λ k x y hk hx hy. gate-less _ _ _ (within-grid k h y hy)) }
