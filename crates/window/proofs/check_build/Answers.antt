-- `window::check_build` meets its contract: each return is the first line that applies. Assumes nothing.
use Rattle.std.proofs.Common.{◌<◌, rules, arith, ◌≡◌, ◌∙◌, length}
use Rattle.std.proofs.lemmas.Grind.{common_steps}
use Rattle.window.specs.Refusals.{given, count_of, centre_of, first_other_sized, first_cap_too_high, first_unfit, checks}
use Rattle.window.specs.Internal.{size_differs, cap_above, planes_unfit}
use Rattle.window.proofs.Frames.{restated}
use Rattle.window.proofs.Scan.{some_first, none_first}
use Rattle.window.proofs.check_build.Goals as goal

pub returns-in-Some : goal.returns-in-Some
unfolding checks
returns-in-Some c =
    let g = given c.args.bytes.now c.args.numbers.now c.args.centre c.args.output c.args.sums c.args.weights in
    let f = some_first (size_differs (centre_of g)) (λ f b e. search rules) c.first_frame.ensures c.in-Some.g c.in-Some.is in
    let o : c.in-Some.g ≡ first_other_sized g = f.0 ∙ (restated g).sized in
    let l : c.in-Some.g < count_of g = f.1 in
    grind (arith, common_steps)

pub returns-in-Some-first_frame : goal.returns-in-Some-first_frame
unfolding checks
returns-in-Some-first_frame c =
    let g = given c.args.bytes.now c.args.numbers.now c.args.centre c.args.output c.args.sums c.args.weights in
    let o : count_of g ≡ first_other_sized g = none_first (size_differs (centre_of g)) (λ f b e. search rules) c.first_frame.ensures c.in_default.is ∙ (restated g).sized in
    let f = some_first cap_above (λ f b e. search rules) c.first_frame-2.ensures c.in-Some-first_frame.g c.in-Some-first_frame.is in
    let k : c.in-Some-first_frame.g ≡ first_cap_too_high g = f.0 ∙ (restated g).caps in
    let l : c.in-Some-first_frame.g < count_of g = f.1 in
    grind (arith, common_steps)

pub returns-in-Some-first_frame-2 : goal.returns-in-Some-first_frame-2
unfolding checks
returns-in-Some-first_frame-2 c =
    let g = given c.args.bytes.now c.args.numbers.now c.args.centre c.args.output c.args.sums c.args.weights in
    let o : count_of g ≡ first_other_sized g = none_first (size_differs (centre_of g)) (λ f b e. search rules) c.first_frame.ensures c.in_default.is ∙ (restated g).sized in
    let k : count_of g ≡ first_cap_too_high g = none_first cap_above (λ f b e. search rules) c.first_frame-2.ensures c.in_default-first_frame.is ∙ (restated g).caps in
    let f = some_first (planes_unfit (length g.bytes)) (λ f b e. search rules) c.first_frame-3.ensures c.in-Some-first_frame-2.g c.in-Some-first_frame-2.is in
    let u : c.in-Some-first_frame-2.g ≡ first_unfit g = f.0 ∙ (restated g).fits in
    let l : c.in-Some-first_frame-2.g < count_of g = f.1 in
    grind (arith, common_steps)

pub returns-then-output-samples : goal.returns-then-output-samples
unfolding checks
returns-then-output-samples c =
    let g = given c.args.bytes.now c.args.numbers.now c.args.centre c.args.output c.args.sums c.args.weights in
    let o : count_of g ≡ first_other_sized g = none_first (size_differs (centre_of g)) (λ f b e. search rules) c.first_frame.ensures c.in_default.is ∙ (restated g).sized in
    let k : count_of g ≡ first_cap_too_high g = none_first cap_above (λ f b e. search rules) c.first_frame-2.ensures c.in_default-first_frame.is ∙ (restated g).caps in
    let u : count_of g ≡ first_unfit g = none_first (planes_unfit (length g.bytes)) (λ f b e. search rules) c.first_frame-3.ensures c.in_default-first_frame-2.is ∙ (restated g).fits in
    grind (arith, common_steps)

pub returns-then-working_short : goal.returns-then-working_short
unfolding checks
returns-then-working_short c =
    let g = given c.args.bytes.now c.args.numbers.now c.args.centre c.args.output c.args.sums c.args.weights in
    let o : count_of g ≡ first_other_sized g = none_first (size_differs (centre_of g)) (λ f b e. search rules) c.first_frame.ensures c.in_default.is ∙ (restated g).sized in
    let k : count_of g ≡ first_cap_too_high g = none_first cap_above (λ f b e. search rules) c.first_frame-2.ensures c.in_default-first_frame.is ∙ (restated g).caps in
    let u : count_of g ≡ first_unfit g = none_first (planes_unfit (length g.bytes)) (λ f b e. search rules) c.first_frame-3.ensures c.in_default-first_frame-2.is ∙ (restated g).fits in
    grind (arith, common_steps)

pub returns : goal.returns
unfolding checks
returns c =
    let g = given c.args.bytes.now c.args.numbers.now c.args.centre c.args.output c.args.sums c.args.weights in
    let o : count_of g ≡ first_other_sized g = none_first (size_differs (centre_of g)) (λ f b e. search rules) c.first_frame.ensures c.in_default.is ∙ (restated g).sized in
    let k : count_of g ≡ first_cap_too_high g = none_first cap_above (λ f b e. search rules) c.first_frame-2.ensures c.in_default-first_frame.is ∙ (restated g).caps in
    let u : count_of g ≡ first_unfit g = none_first (planes_unfit (length g.bytes)) (λ f b e. search rules) c.first_frame-3.ensures c.in_default-first_frame-2.is ∙ (restated g).fits in
    grind (arith, common_steps)
