-- `arnr::half::passed` meets its contract: row 0 is the identity, and the other row is 4. Assumes nothing.
use Rattle.std.proofs.Common.{arith, ◌≡◌, ◌∙◌, min, get_or}
use Rattle.prediction.specs.Filter.{sixtap}
use Rattle.filters.specs.Internal.{filtered_list}
use Rattle.filters.proofs.Passes.{kept_is}
use Rattle.sixtap.proofs.Sizes.{sixtap-whole}
use Rattle.arnr.proofs.half.passed.Goals as goal

pub returns-then-s-eq0 : goal.returns-then-s-eq0
returns-then-s-eq0 c =
    let x = get_or c.args.support 2 0 in
    let byte : x ≡ min x 255 = omega arith in
    rw c.if-s-eq0.true (byte ∙ kept_is sixtap sixtap-whole _)

pub returns-else-s-eq0 : goal.returns-else-s-eq0
unfolding filtered_list
returns-else-s-eq0 c =
    let e : c.args.s ≡ 4 = omega (arith, c.requires, c.if-s-eq0.false) in
    rw e c.halfway.ensures
