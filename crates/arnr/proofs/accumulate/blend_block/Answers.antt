-- `arnr::accumulate::blend_block` meets its contract. The loop's invariant: the first r rows of the block are added. Assumes nothing.
use Rattle.std.proofs.Common.{◌≡◌, ◌∙◌, ℕ, ◌+◌, ◌≤◌, ◌<◌, length, get_or, take, arith, rules, get_or-take, length-take-le}
use Rattle.std.specs.Prelude.{pos}
use Rattle.prediction.specs.Plane.{sample_at}
use Rattle.denoiser.specs.Search.{displaced_by}
use Rattle.denoiser.specs.Internal.{plane_in}
use Rattle.denoiser.proofs.Planes.{sample-byte}
use Rattle.arnr.proofs.Blocks.{rows_none, rows_more, rows_all, rows_slack}
use Rattle.arnr.proofs.accumulate.blend_block.Goals as goal

pub loop-r-init : goal.loop-r-init
loop-r-init c = record { sums = rows_none _ _ _ c.args.b _ _; weights = rows_none _ _ _ c.args.b _ _ }

pub blend_span-requires-clause-slack : goal.blend_span-requires-clause-slack
blend_span-requires-clause-slack c =
    let sample : (x y : ℕ) → displaced_by c.args.d (sample_at (plane_in c.args.bytes.now c.args.p)) (pos x) (pos y) ≤ 255 = λ x y. sample-byte (plane_in c.args.bytes.now c.args.p) (λ k. search rules) _ _ in
    let i = c.loop-r.invariant in rows_slack c.args.at c.args.p.columns c.args.p.rows c.args.b c.loop-r.r c.args.curve.now.at _ _ c.requires.fits.wide.0 c.args.curve.now.light sample i.sums i.weights c.requires.slack

pub loop-r-preserved : goal.loop-r-preserved
loop-r-preserved c =
    let i = c.loop-r.invariant in
    let n = c.args.b.columns in
    let row = c.displaced_row-row.result in
    let s = displaced_by c.args.d (sample_at (plane_in c.args.bytes.now c.args.p)) in
    let long : length (take n row) ≡ n = length-take-le n row (omega arith) in
    let is : (k : ℕ) → k < length (take n row) → get_or (take n row) k 0 ≡ s (pos (c.args.b.x + k)) (pos (c.args.b.y + c.loop-r.r))
    = λ k h. get_or-take n row k 0 (omega arith) ∙ c.displaced_row-row.ensures k (omega arith) in
    record {
      sums = rows_more c.args.at c.args.p.columns c.args.p.rows c.args.b _ c.loop-r.r i.sums (simp long at (c.blend_span.ensures.placed s is));
      weights = rows_more c.args.at c.args.p.columns c.args.p.rows c.args.b _ c.loop-r.r i.weights (simp long at (c.blend_span.ensures.placed_2 s is));
    }

pub returns : goal.returns
returns c =
    let r-is : c.loop-r.r ≡ c.args.b.rows = omega arith in
    let i = c.loop-r.invariant in
    record { placed = rows_all c.args.at c.args.p.columns c.args.p.rows c.args.b _ c.loop-r.r r-is i.sums; placed_2 = rows_all c.args.at c.args.p.columns c.args.p.rows c.args.b _ c.loop-r.r r-is i.weights }
