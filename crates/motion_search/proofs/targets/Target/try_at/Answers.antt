-- `try_at` meets its contract. Assumes nothing.
use Rattle.std.proofs.Common.{◌≡◌, Bool, ◌&&◌, ℤ, pos, negsuc, ◌+ℤ◌, int_eq, sym, rules, ◌∙◌}
use Rattle.std.proofs.lemmas.Int.{to_z-of_z}
use Rattle.laws.specs.Signed.{eq_z}
use Rattle.prediction.specs.declared.motion_vector.Mv.{Mv}
use Rattle.search.specs.Search.{stepped, same_mv}
use Rattle.search.proofs.Grid.{whole, whole_copied}
use Rattle.search.proofs.Ceilings.{cost_read}
use Rattle.search.proofs.Steps.{tried_skipped, tried_better, tried_worse}
use Rattle.motion_search.proofs.targets.Target.try_at.Goals as goal

-- what the derived comparison of two vectors gives
eq_z_is : (a b : ℤ) → eq_z a b ≡ int_eq a b
eq_z_is (pos a) (pos b) = search rules
eq_z_is (pos a) (negsuc b) = search rules
eq_z_is (negsuc a) (pos b) = search rules
eq_z_is (negsuc a) (negsuc b) = search rules

compared : (a b : Mv) (r s : Bool) → r ≡ (int_eq a.row b.row && int_eq a.col b.col) → r ≡ s → same_mv a b ≡ s
compared a b r s e f = rw (eq_z_is a.row b.row, eq_z_is a.col b.col) (sym e ∙ f)

pub returns-then-eq : goal.returns-then-eq
returns-then-eq c =
    let neighbour_is : c.neighbour-mv.result
    ≡ stepped c.args.drow c.args.dcol c.args.best.mv = simp (to_z-of_z _ _ c.ranges.drow, to_z-of_z _ _ c.ranges.dcol) at c.neighbour-mv.ensures in
    tried_skipped _ _ _ _ _ neighbour_is (compared c.neighbour-mv.result c.args.best.mv _ _ c.eq.ensures c.if-eq.true)

pub whole_sad-read-requires : goal.whole_sad-read-requires
whole_sad-read-requires c =
    let neighbour_is : c.neighbour-mv.result
    ≡ stepped c.args.drow c.args.dcol c.args.best.mv = simp (to_z-of_z _ _ c.ranges.drow, to_z-of_z _ _ c.ranges.dcol) at c.neighbour-mv.ensures in
    rw neighbour_is (whole_copied _ (whole (record { row = c.args.best.mv.row +ℤ c.args.drow; col = c.args.best.mv.col +ℤ c.args.dcol })))

pub returns-then-read-best : goal.returns-then-read-best
returns-then-read-best c =
    let neighbour_is : c.neighbour-mv.result
    ≡ stepped c.args.drow c.args.dcol c.args.best.mv = simp (to_z-of_z _ _ c.ranges.drow, to_z-of_z _ _ c.ranges.dcol) at c.neighbour-mv.ensures in
    tried_better _ _ _ _ _ neighbour_is _ (compared c.neighbour-mv.result c.args.best.mv _ _ c.eq.ensures c.if-eq.false) (cost_read _ _ _ _ _ _ _ c.whole_sad-read.ensures) c.if-read-best.true

pub returns : goal.returns
returns c =
    let neighbour_is : c.neighbour-mv.result
    ≡ stepped c.args.drow c.args.dcol c.args.best.mv = simp (to_z-of_z _ _ c.ranges.drow, to_z-of_z _ _ c.ranges.dcol) at c.neighbour-mv.ensures in
    tried_worse _ _ _ _ _ neighbour_is _ (compared c.neighbour-mv.result c.args.best.mv _ _ c.eq.ensures c.if-eq.false) (cost_read _ _ _ _ _ _ _ c.whole_sad-read.ensures) c.if-read-best.false
