-- `arnr::build::blend` meets its contract: seeded, raised by every other frame, resolved. Assumes nothing.
use Rattle.std.proofs.Common.{◌≡◌, ◌∙◌, ℕ, ◌*◌, ◌<◌, length, get_or, arith, rules}
use Rattle.window.specs.Layout.{packed_size}
use Rattle.denoiser.specs.Window.{sum_at, total_at}
use Rattle.denoiser.specs.Chroma.{rule_of}
use Rattle.denoiser.specs.Build.{Request, asked, scene_of, window_of}
use Rattle.denoiser.specs.Internal.{Front, Shows}
use Rattle.denoiser.proofs.Blends.{sums_show, weights_show, ready, output_shows, count_is}
use Rattle.denoiser.proofs.Join.{curve_light}
use Rattle.denoiser.proofs.Packs.{shows_is}
use Rattle.arnr.proofs.build.blend.Goals as goal

pub invariant_of-curve : goal.invariant_of-curve
invariant_of-curve c = record { light = rw c.curve.ensures (curve_light c.args.strength) }

pub resolve-requires-clause-by_index : goal.resolve-requires-clause-by_index
resolve-requires-clause-by_index c =
    let request : Request = asked c.args.bytes.now c.args.numbers.now c.args.centre c.args.strength in
    let sums-front : Front (packed_size c.args.w c.args.h) (λ k. 16 * get_or c.args.output.now k 0) c.args.sums.now c.seed.new.sums = rw c.requires.exact.of_out at c.seed.ensures.front in
    let weights-front : Front (packed_size c.args.w c.args.h) (λ k. 16) c.args.weights.now c.seed.new.weights = rw c.requires.exact.of_out at c.seed.ensures.front_2 in
    let byte : (i : ℕ) → get_or c.args.bytes.now i 0 < 256 = λ i. search rules in
    let sums_there : Shows c.args.w c.args.h (sum_at (rule_of c.args.choice (scene_of request)) (window_of request)) c.blend_frames-accepted.new.sums = let done = rw c.curve.ensures at (rw c.frame_count-count.ensures at c.blend_frames-accepted.ensures.spread) in
    sums_show c.args.choice request c.args.w c.args.h c.requires.legal byte c.args.output.now c.requires.shows _ _ _ sums-front done in
    let weights_there : Shows c.args.w c.args.h (total_at (rule_of c.args.choice (scene_of request)) (window_of request)) c.blend_frames-accepted.new.weights = let done = rw c.curve.ensures at (rw c.frame_count-count.ensures at c.blend_frames-accepted.ensures.spread_2) in
    weights_show c.args.choice request c.args.w c.args.h c.requires.legal byte c.args.output.now c.requires.shows _ _ _ weights-front done in
    λ i h. ready c.args.choice request c.args.w c.args.h c.requires.legal byte _ _ sums_there weights_there i (omega (arith, c.requires.exact.of_out))

pub returns : goal.returns
returns c =
    let request : Request = asked c.args.bytes.now c.args.numbers.now c.args.centre c.args.strength in
    let byte : (i : ℕ) → get_or c.args.bytes.now i 0 < 256 = λ i. search rules in
    let sums-front : Front (packed_size c.args.w c.args.h) (λ k. 16 * get_or c.args.output.now k 0) c.args.sums.now c.seed.new.sums = rw c.requires.exact.of_out at c.seed.ensures.front in
    let sums_there : Shows c.args.w c.args.h (sum_at (rule_of c.args.choice (scene_of request)) (window_of request)) c.blend_frames-accepted.new.sums = let done = rw c.curve.ensures at (rw c.frame_count-count.ensures at c.blend_frames-accepted.ensures.spread) in
    sums_show c.args.choice request c.args.w c.args.h c.requires.legal byte c.args.output.now c.requires.shows _ _ _ sums-front done in
    let weights-front : Front (packed_size c.args.w c.args.h) (λ k. 16) c.args.weights.now c.seed.new.weights = rw c.requires.exact.of_out at c.seed.ensures.front_2 in
    let weights_there : Shows c.args.w c.args.h (total_at (rule_of c.args.choice (scene_of request)) (window_of request)) c.blend_frames-accepted.new.weights = let done = rw c.curve.ensures at (rw c.frame_count-count.ensures at c.blend_frames-accepted.ensures.spread_2) in
    weights_show c.args.choice request c.args.w c.args.h c.requires.legal byte c.args.output.now c.requires.shows _ _ _ weights-front done in
    let sums-long : length c.blend_frames-accepted.new.sums ≡ packed_size c.args.w c.args.h = c.blend_frames-accepted.ensures.spread.long ∙ sums-front.long ∙ c.requires.exact.of_sums in
    let weights-long : length c.blend_frames-accepted.new.weights ≡ packed_size c.args.w c.args.h = c.blend_frames-accepted.ensures.spread_2.long ∙ weights-front.long ∙ c.requires.exact.of_weights in
    let q = request in
    let w = c.args.w in
    let h = c.args.h in
    let wide = c.requires.legal.wide.0 in
    let done = rw c.curve.ensures at (rw c.frame_count-count.ensures at c.blend_frames-accepted.ensures.value) in
    let front = rw c.requires.exact.of_out at c.resolve.ensures in
    let resolved = output_shows c.args.choice q w h c.requires.legal byte _ _ sums_there weights_there _ _ front in
    record {
      accepted = done ∙ count_is c.args.choice q w h c.requires.legal byte c.args.output.now c.requires.shows;
      output = shows_is w h _ _ wide (front.long ∙ c.requires.exact.of_out) resolved;
      sums = shows_is w h _ _ wide sums-long sums_there;
      weights = shows_is w h _ _ wide weights-long weights_there;
    }
