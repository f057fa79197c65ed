-- `arnr::accumulate::blend_copied` meets its contract: each plane takes up room for one frame. Assumes nothing.
use Rattle.denoiser.specs.Internal.{Slack}
use Rattle.denoiser.proofs.Pictures.{picture-byte}
use Rattle.denoiser.proofs.Spreads.{plane_slack, slack_less, spread_three}
use Rattle.std.proofs.Common.{arith, rules}
use Rattle.arnr.proofs.accumulate.blend_copied.Goals as goal

pub blend_in-requires-2-clause-slack : goal.blend_in-requires-2-clause-slack
blend_in-requires-2-clause-slack c = slack_less 2 3 _ _ (omega arith)
    (plane_slack c.args.f.width c.args.f.height c.args.b 0 c.args.curve.now.at c.args.out.now _ c.args.curve.now.light (c.requires.whole.fits 0 (omega arith)).wide.0
    (λ x y. picture-byte c.args.bytes.now c.args.f (λ i. search rules) 0 _ _) c.blend_in.ensures.placed c.blend_in.ensures.placed_2 3 c.requires.slack)

pub blend_in-requires-3-clause-slack : goal.blend_in-requires-3-clause-slack
blend_in-requires-3-clause-slack c =
    let slack_y : Slack 3 c.blend_in.new.sums c.blend_in.new.weights = plane_slack c.args.f.width c.args.f.height c.args.b 0 c.args.curve.now.at c.args.out.now _ c.args.curve.now.light (c.requires.whole.fits 0 (omega arith)).wide.0
    (λ x y. picture-byte c.args.bytes.now c.args.f (λ i. search rules) 0 _ _) c.blend_in.ensures.placed c.blend_in.ensures.placed_2 3 c.requires.slack in
    plane_slack c.args.f.width c.args.f.height c.args.b 1 c.args.curve.now.at c.args.out.now _ c.args.curve.now.light (c.requires.whole.fits 1 (omega arith)).wide.0
    (λ x y. picture-byte c.args.bytes.now c.args.f (λ i. search rules) 1 _ _) c.blend_in-2.ensures.placed c.blend_in-2.ensures.placed_2 2 slack_y

pub returns : goal.returns
returns c =
    let y = c.blend_in.ensures in
    let u = c.blend_in-2.ensures in
    let v = c.blend_in-3.ensures in
    record { spread = spread_three c.args.f.width c.args.f.height _ y.placed u.placed v.placed; spread_2 = spread_three c.args.f.width c.args.f.height _ y.placed_2 u.placed_2 v.placed_2 }
