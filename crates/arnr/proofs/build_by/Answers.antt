-- `arnr::build_by` meets its contract. Assumes nothing.
use Rattle.std.proofs.Common.{◌≡◌, Err, rules}
use Rattle.denoiser.specs.Build.{BuildInput, asked}
use Rattle.denoiser.proofs.Answers.{refused_is, legal, lent, done_is}
use Rattle.arnr.proofs.build_by.Goals as goal

pub make-accepted-requires : goal.make-accepted-requires
make-accepted-requires c =
    let input : BuildInput = record {
      request = asked c.args.bytes.now c.args.numbers.now c.args.centre c.args.config.strength;
      lent = record { output = c.args.output.now; sums = c.args.sums.now; weights = c.args.weights.now };
    } in
    let k = c.check_build in
    record { legal = legal c.args.choice input k.result _ k.ensures c.in_ok-size.was; lent = lent c.args.choice input k.result _ k.ensures c.in_ok-size.was }

pub returns-in_err-size : goal.returns-in_err-size
returns-in_err-size c =
    let input : BuildInput = record {
      request = asked c.args.bytes.now c.args.numbers.now c.args.centre c.args.config.strength;
      lent = record { output = c.args.output.now; sums = c.args.sums.now; weights = c.args.weights.now };
    } in
    let is : c.from_residual.result ≡ Err c.in_err-size.field-0.0 = search rules in
    rw is (refused_is c.args.choice input c.check_build.result _ c.check_build.ensures c.in_err-size.was)

pub returns : goal.returns
returns c =
    let input : BuildInput = record {
      request = asked c.args.bytes.now c.args.numbers.now c.args.centre c.args.config.strength;
      lent = record { output = c.args.output.now; sums = c.args.sums.now; weights = c.args.weights.now };
    } in
    let m = c.make-accepted in
    done_is c.args.choice input c.check_build.result _ c.check_build.ensures c.in_ok-size.was m.result _ m.ensures (λ i. search rules)
