-- `search_within` meets its contract. Assumes nothing.
use Rattle.std.proofs.Common.{refl, arith, ◌≤◌}
use Rattle.search.specs.Allowance as sharing
use Rattle.search.proofs.Raster.{mb_count_lem}
use Rattle.picture_search.specs.Internal.{reference_of}
use Rattle.picture_search.proofs.Filling.{filling_start, filling_turn, filling_end}
use Rattle.picture_search.proofs.Allowed.{enough_granted, found_is, sads_remain, remains-less, remains-most, spent_is}
use Rattle.picture_search.proofs.allowance.search_within.Goals as goal

pub loop-i-init : goal.loop-i-init
unfolding sharing.remains
loop-i-init c = (filling_start _ _ _ c.requires.count_in_bounds, refl)

pub granted_rounds-rounds-requires : goal.granted_rounds-rounds-requires
granted_rounds-rounds-requires c =
    let most = (mb_count_lem (reference_of c.args.p) c.requires.legal.size).1 in
    let few : c.args.count ≤ 1048576 = omega (arith, c.requires.count_value, most) in
    let h = c.loop-i-test.true in
    (omega (arith, few), omega arith, enough_granted _ _ _ _ _ _ _ c.requires.count_value c.loop-i.invariant.1 c.requires.count_bound h)

pub overflow_sub-remains : goal.overflow_sub-remains
overflow_sub-remains c =
    rw c.search_entry-remains.ensures.0
    (sads_remain _ _ _ _ _ _ _ c.requires.count_value c.loop-i.invariant.1 _ _ c.granted_rounds-rounds.ensures refl c.requires.count_bound c.loop-i-test.true)

pub loop-i-preserved : goal.loop-i-preserved
loop-i-preserved c =
    let l = c.loop-i in
    let e = c.search_entry-remains.ensures in
    let h = c.loop-i-test.true in
    let is = found_is _ _ _ _ _ _ _ c.requires.count_value l.invariant.1 _ _ c.granted_rounds-rounds.ensures refl in (
      filling_turn _ _ _ _ _ l.i _ l.invariant.0 h is e.1,
      rw e.0 (remains-less _ _ _ _ _ _ _ c.requires.count_value l.invariant.1 _ _ c.granted_rounds-rounds.ensures refl),
    )

pub overflow_sub-result : goal.overflow_sub-result
overflow_sub-result c =
    remains-most _ _ _ _ _ _ _ c.requires.count_value c.loop-i.invariant.1 c.requires.count_bound c.loop-i.invariant.0.rows.count c.loop-i-test.false

pub returns : goal.returns
returns c =
    let l = c.loop-i in (
      spent_is _ _ _ _ _ _ _ c.requires.count_value l.invariant.1 c.requires.count_bound l.invariant.0.rows.count c.loop-i-test.false,
      filling_end _ _ _ _ l.i l.invariant.0 c.loop-i-test.false,
    )
