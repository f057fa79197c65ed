-- `arnr::accumulate::blend_square` meets its contract. The loop's invariant: the first r rows of the block are added. Assumes nothing.
use Rattle.std.proofs.Common.{◌≡◌, ◌∙◌, List, ℕ, ℤ, ◌+◌, ◌-◌, ◌*◌, ◌≤◌, ◌<◌, length, get_or, take, drop, arith, rules, get_or-take}
use Rattle.laws.specs.Signed.{above}
use native.Mathlib.Nat.{add-sub_cancel_left}
use Rattle.std.specs.Prelude.{pos}
use Rattle.laws.proofs.Slices.{mid_long}
use Rattle.denoiser.specs.Internal.{block_samples}
use Rattle.denoiser.proofs.Halves.{square-row}
use Rattle.arnr.proofs.Blocks.{rows_none, rows_more, rows_all, rows_slack}
use Rattle.arnr.proofs.accumulate.blend_square.Goals as goal

sample-most : (block : List ℕ) (x y : ℕ) (i j : ℤ) → ((k : ℕ) → get_or block k 0 < 256) → block_samples block x y i j ≤ 255
unfolding block_samples
sample-most block x y i j byte = omega (arith, byte ((above j - y) * 8 + (above i - x)))

pub loop-r-init : goal.loop-r-init
loop-r-init c = record { sums = rows_none _ _ _ c.args.b _ _; weights = rows_none _ _ _ c.args.b _ _ }

pub blend_span-requires-clause-slack : goal.blend_span-requires-clause-slack
blend_span-requires-clause-slack c =
    let byte : (k : ℕ) → get_or c.args.block.now k 0 < 256 = λ k. search rules in
    let i = c.loop-r.invariant in rows_slack c.args.at c.args.p.columns c.args.p.rows c.args.b c.loop-r.r c.args.curve.now.at _ _ c.requires.block_len.1 c.args.curve.now.light (λ x y. sample-most _ _ _ _ _ byte) i.sums i.weights c.requires.slack

pub loop-r-preserved : goal.loop-r-preserved
loop-r-preserved c =
    let i = c.loop-r.invariant in
    let b = c.args.b in
    let n = b.columns in
    let r = c.loop-r.r in
    let block = c.args.block.now in
    let row = take n (drop (8 * r) block) in
    let s = block_samples block b.x b.y in
    let long : length row ≡ n = mid_long (8 * r) n block (omega (arith, c.requires.block_len)) in
    let is : (k : ℕ) → k < length row → get_or row k 0 ≡ s (pos (b.x + k)) (pos (b.y + r))
    = λ k h. get_or-take n (drop (8 * r) block) k 0 (omega arith) ∙ square-row block b.x b.y r k in
    let done = simp add-sub_cancel_left at c.blend_span.ensures in
    record {
      sums = rows_more c.args.at c.args.p.columns c.args.p.rows b _ r i.sums (simp long at (done.placed s is));
      weights = rows_more c.args.at c.args.p.columns c.args.p.rows b _ r i.weights (simp long at (done.placed_2 s is));
    }

pub returns : goal.returns
returns c =
    let r-is : c.loop-r.r ≡ c.args.b.rows = omega arith in
    let i = c.loop-r.invariant in
    record { placed = rows_all c.args.at c.args.p.columns c.args.p.rows c.args.b _ c.loop-r.r r-is i.sums; placed_2 = rows_all c.args.at c.args.p.columns c.args.p.rows c.args.b _ c.loop-r.r r-is i.weights }
