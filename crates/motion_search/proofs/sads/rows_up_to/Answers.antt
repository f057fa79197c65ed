-- `rows_up_to` meets its contract. Assumes nothing.
use Rattle.std.proofs.Common.{◌≡◌, ℕ, ◌+◌, ◌-◌, ◌*◌, ◌/◌, ◌≤◌, ◌<◌, refl, arith}
use Rattle.prediction.specs.Internal.{parts}
use Rattle.prediction.specs.Ceiled.{CeiledIs}
use Rattle.prediction.proofs.Ceilings.{Measuring, none_measured, cut_off, row_more, all_measured, both-parts, both-cut}
use Rattle.motion_search.proofs.sads.rows_up_to.Goals as goal

-- a row with which the ceiling is reached, and one with which it is not
module _ (row : ℕ → ℕ) (ceiling j left v : ℕ) (m : Measuring row ceiling j left) (is : v ≡ row j) where
  stops : (both : ℕ) → j < 16 → left ≤ v → both ≡ j + 1 → CeiledIs row 16 ceiling (parts ceiling both) × (both / 32 ≤ ceiling)
  stops both h c e = both-cut row 16 ceiling (j + 1) both (cut_off row ceiling j left v m is 16 (j + 1) h c refl) (omega arith) e

  goes_on : (k : ℕ) → k ≡ j + 1 → v < left → Measuring row ceiling k (left - v)
  goes_on k e h = rw e (row_more row ceiling j left v m is h)

pub loop-turn-init : goal.loop-turn-init
loop-turn-init c = none_measured _ _

pub returns-then-left-first : goal.returns-then-left-first
returns-then-left-first c =
    let l = c.loop-turn in
    stops _ _ (l.turn * 4) _ c.row_at-first.result l.invariant c.row_at-first.ensures _ (omega arith) c.if-left-first.true (omega arith)

pub returns-then-left-second : goal.returns-then-left-second
returns-then-left-second c =
    let r = c.loop-turn.turn * 4 in
    let past_1 = goes_on _ _ r _ c.row_at-first.result c.loop-turn.invariant c.row_at-first.ensures (r + 1) (omega arith) c.if-left-first.false in
    stops _ _ (r + 1) _ c.row_at-second.result past_1 c.row_at-second.ensures _ (omega arith) c.if-left-second.true (omega arith)

pub returns-then-left-third : goal.returns-then-left-third
returns-then-left-third c =
    let r = c.loop-turn.turn * 4 in
    let past_1 = goes_on _ _ r _ c.row_at-first.result c.loop-turn.invariant c.row_at-first.ensures (r + 1) (omega arith) c.if-left-first.false in
    let past_2 = goes_on _ _ (r + 1) _ c.row_at-second.result past_1 c.row_at-second.ensures (r + 2) (omega arith) c.if-left-second.false in
    stops _ _ (r + 2) _ c.row_at-third.result past_2 c.row_at-third.ensures _ (omega arith) c.if-left-third.true (omega arith)

pub returns-then-left-fourth : goal.returns-then-left-fourth
returns-then-left-fourth c =
    let r = c.loop-turn.turn * 4 in
    let past_1 = goes_on _ _ r _ c.row_at-first.result c.loop-turn.invariant c.row_at-first.ensures (r + 1) (omega arith) c.if-left-first.false in
    let past_2 = goes_on _ _ (r + 1) _ c.row_at-second.result past_1 c.row_at-second.ensures (r + 2) (omega arith) c.if-left-second.false in
    let past_3 = goes_on _ _ (r + 2) _ c.row_at-third.result past_2 c.row_at-third.ensures (r + 3) (omega arith) c.if-left-third.false in
    stops _ _ (r + 3) _ c.row_at-fourth.result past_3 c.row_at-fourth.ensures _ (omega arith) c.if-left-fourth.true (omega arith)

pub loop-turn-preserved : goal.loop-turn-preserved
loop-turn-preserved c =
    let r = c.loop-turn.turn * 4 in
    let past_1 = goes_on _ _ r _ c.row_at-first.result c.loop-turn.invariant c.row_at-first.ensures (r + 1) (omega arith) c.if-left-first.false in
    let past_2 = goes_on _ _ (r + 1) _ c.row_at-second.result past_1 c.row_at-second.ensures (r + 2) (omega arith) c.if-left-second.false in
    let past_3 = goes_on _ _ (r + 2) _ c.row_at-third.result past_2 c.row_at-third.ensures (r + 3) (omega arith) c.if-left-third.false in
    goes_on _ _ (r + 3) _ c.row_at-fourth.result past_3 c.row_at-fourth.ensures _ (omega arith) c.if-left-fourth.false

pub returns : goal.returns
returns c =
    let l = c.loop-turn in
    let all : l.turn * 4 ≡ 16 = omega arith in
    both-parts _ 16 _ l.left 16 _ (all_measured _ _ 16 l.left (rw all at l.invariant)) (omega arith) (omega (arith, l.invariant.room)) refl
