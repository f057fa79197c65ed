-- `arnr::build::make` meets its contract. Assumes nothing.
use Rattle.std.proofs.Common.{◌≡◌, sym, ◌∙◌, List, ℕ, ◌≤◌, length, take, drop, arith, length-take-le, take_at}
use Rattle.denoiser.specs.Window.{centre_at}
use Rattle.denoiser.specs.Chroma.{rule_of}
use Rattle.denoiser.specs.Demand.{Held}
use Rattle.denoiser.specs.Build.{Request, asked, scene_of}
use Rattle.denoiser.specs.Internal.{Shows}
use Rattle.denoiser.proofs.Makes.{crops_one, crops_none, crops_not, centre_shows, made-cropped, made_blended}
use Rattle.arnr.proofs.build.make.Goals.{then-frame_count-eq1-via-then-frame_count-eq1, then-frame_count-eq1-via-else-frame_count-eq1+then-strength-eq0}
use Rattle.arnr.proofs.build.make.Goals as goal

-- P entries of a list that has as many
cut : (n : ℕ) (l : List ℕ) {p : ℕ} → n ≡ p → p ≤ length l → length (take n l) ≡ n
cut n l is h = length-take-le n l (omega arith)

pub blend-requires-clause-shows : goal.blend-requires-clause-shows
blend-requires-clause-shows c =
    let crop-long : length c.crop.new.out ≡ c.samples_in-n.result = c.crop.ensures.out_len_unchanged ∙ cut _ _ c.samples_in-n.ensures c.requires.lent.in_out in
    let request : Request = asked c.args.bytes.now c.args.numbers.now c.args.centre c.args.strength in
    let crop_shows : Shows c.args.w c.args.h (centre_at (scene_of request)) c.crop.new.out = centre_shows (rule_of c.args.choice) request c.args.w c.args.h c.requires.legal _ c.samples_in-n.ensures _
    (rw c.frame_at-f.ensures at c.crop.ensures.shows) in
    rw (take_at c.crop.new.out (drop c.samples_in-n.result c.args.output.now) _ crop-long) crop_shows

pub returns-then-frame_count-eq1 : goal.returns-then-frame_count-eq1
returns-then-frame_count-eq1 c =
    let request : Request = asked c.args.bytes.now c.args.numbers.now c.args.centre c.args.strength in
    let held : Held = record { output = c.args.output.now; sums = c.args.sums.now; weights = c.args.weights.now } in
    let crop-long : length c.crop.new.out ≡ c.samples_in-n.result = c.crop.ensures.out_len_unchanged ∙ cut _ _ c.samples_in-n.ensures c.requires.lent.in_out in
    let crop_shows : Shows c.args.w c.args.h (centre_at (scene_of request)) c.crop.new.out = centre_shows (rule_of c.args.choice) request c.args.w c.args.h c.requires.legal _ c.samples_in-n.ensures _
    (rw c.frame_at-f.ensures at c.crop.ensures.shows) in
    made-cropped (rule_of c.args.choice) request c.args.w c.args.h c.requires.legal _ c.samples_in-n.ensures held _ crop-long crop_shows
    (elim c.then-frame_count-eq1.branch [
      | then-frame_count-eq1-via-then-frame_count-eq1 w ↦ crops_one request (sym c.frame_count.ensures ∙ w.if-frame_count-eq1.true)
      | then-frame_count-eq1-via-else-frame_count-eq1+then-strength-eq0 w ↦ crops_none request w.if-strength-eq0.true
    ])

pub returns : goal.returns
returns c =
    let request : Request = asked c.args.bytes.now c.args.numbers.now c.args.centre c.args.strength in
    let held : Held = record { output = c.args.output.now; sums = c.args.sums.now; weights = c.args.weights.now } in
    let crop-long : length c.crop.new.out ≡ c.samples_in-n.result = c.crop.ensures.out_len_unchanged ∙ cut _ _ c.samples_in-n.ensures c.requires.lent.in_out in
    made_blended (rule_of c.args.choice) request c.args.w c.args.h c.requires.legal _ c.samples_in-n.ensures held c.crop.new.out c.blend.result (record { output = c.blend.new.output; sums = c.blend.new.sums; weights = c.blend.new.weights }) crop-long c.blend.ensures
    (crops_not request (λ e. c.if-frame_count-eq1.false (c.frame_count.ensures ∙ e)) c.if-strength-eq0.false)
