-- `weights::scale_of` meets its contract: no bit is shifted out. Assumes nothing.
use Rattle.std.proofs.Common.{ap, ◌∙◌, ℕ, ◌*◌, ◌^◌, ◌≤◌, ◌<◌, min, pow_mono, mod-eq_of_lt, arith}
use Rattle.weights.specs.Weights.{scale}
use Rattle.weights.proofs.scale_of.Goals as goal

pub returns : goal.returns
unfolding scale
returns c =
    let s = min c.args.strength 6 in
    let most : 2 ^ s ≤ 2 ^ 6 = pow_mono {i = s} {j = 6} (omega arith) in
    let small : 8 * 2 ^ s < 4294967296 = omega arith in
    mod-eq_of_lt (rw c.min.ensures small) ∙ ap (λ (k : ℕ). 8 * 2 ^ k) c.min.ensures
