-- `arnr::three::filtered_sad` meets its contract. Assumes nothing.
use Rattle.std.proofs.Common.{rules}
use Rattle.prediction.proofs.Ceilings.{same_rows}
use Rattle.denoiser.specs.Internal.{eight_apart}
use Rattle.denoiser.proofs.Passes.{eight_ends, eight_square}
use Rattle.arnr.proofs.three.filtered_sad.Goals as goal

pub up_to-requires : goal.up_to-requires
up_to-requires c =
    let a = c.args in
    let ends = eight_ends a.at a.p.columns a.p.rows _ a.b c.if-b-eq8.true c.requires.lies c.requires.rows_in_bounds in
    record { rows_bound = c.requires.lies.low; each = λ r h. let e = ends r h in search rules }

pub returns-then-b-gt0 : goal.returns-then-b-gt0
unfolding eight_apart
returns-then-b-gt0 c =
    let a = c.args in
    same_rows _ _ a.b.rows a.ceiling _ (eight_square a.out.now a.block.now a.p.columns a.p.rows a.b a.at c.if-b-eq8.true c.requires.lies) (c.up_to.ensures _ (λ r v h p. search rules))
