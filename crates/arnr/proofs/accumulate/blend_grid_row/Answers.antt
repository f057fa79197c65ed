-- `arnr::accumulate::blend_grid_row` meets its contract. The loop's invariant: the first j blocks of the row are added, and their accepted ones counted. Assumes nothing.
use Rattle.std.proofs.Common.{◌≡◌, ap, sym, ◌∙◌, ℕ, ℤ, Bool, false, ◌/◌, ◌<◌, ◌≤◌, arith, rules, add-zero}
use Rattle.laws.proofs.Sums.{sum_none, sum_more}
use Rattle.denoiser.specs.Grid.{grid_side, unit_of}
use Rattle.denoiser.specs.Window.{gate}
use Rattle.denoiser.specs.Pictures.{picture_of}
use Rattle.denoiser.proofs.Cover.{within-grid}
use Rattle.denoiser.proofs.Gates.{gate-most, gate-less, gate_on, gate_off, row_none, across}
use Rattle.denoiser.proofs.Pictures.{picture-byte, share_light, term_light}
use Rattle.denoiser.proofs.Spreads.{spread_none, spread_then, spread_same, spread_slack}
use Rattle.arnr.proofs.accumulate.blend_grid_row.Goals.{then-blend_at, else-blend_at}
use Rattle.arnr.proofs.accumulate.blend_grid_row.Goals as goal

shut : (b : Bool) (n : ℕ) → b ≡ false → gate b n ≡ 0
shut b n e = ap (λ (t : Bool). gate t n) e ∙ gate_off n

pub loop-j-init : goal.loop-j-init
loop-j-init c = record {
  count = sum_none _;
  few = search rules;
  sums = spread_none _ _ _ _ (λ k x y hx hy. row_none (y / unit_of k) c.args.i (x / unit_of k) _);
  weights = spread_none _ _ _ _ (λ k x y hx hy. row_none (y / unit_of k) c.args.i (x / unit_of k) _);
}

pub blend_at-requires-clause-slack : goal.blend_at-requires-clause-slack
blend_at-requires-clause-slack c =
    let wide : 0 < c.args.f.width = (c.requires.whole.fits 0 (omega arith)).wide.0 in
    let byte : (k : ℕ) (a b : ℤ) → picture_of c.args.bytes.now c.args.f k a b ≤ 255 = picture-byte c.args.bytes.now c.args.f (λ i. search rules) in
    let light = c.args.curve.now.light in
    let i = c.loop-j.invariant in
    spread_slack c.args.f.width c.args.f.height i.sums i.weights 4 1 wide
    (λ k x y. gate-most _ _ 4080 (gate-most _ _ 4080 (term_light c.args.choice c.args.curve.now.at _ _ k x y light (byte k))))
    (λ k x y. gate-most _ _ 16 (gate-most _ _ 16 (share_light c.args.choice c.args.curve.now.at _ _ k x y light))) c.requires.slack

pub loop-j-preserved : goal.loop-j-preserved
loop-j-preserved c =
    let i = c.loop-j.invariant in
    let done = c.blend_at.ensures in
    record {
      count = elim c.if-blend_at.branch [
        | then-blend_at w ↦ rw w.count-is (sum_more _ c.loop-j.j 1 c.loop-j.count i.count (sym (gate_on _ 1 (sym done.value ∙ w.if-blend_at.true))))
        | else-blend_at w ↦ rw w.count-is (sym (add-zero _) ∙ sum_more _ c.loop-j.j 0 c.loop-j.count i.count (sym (shut _ 1 (sym done.value ∙ w.if-blend_at.false))))
      ];
      few = elim c.if-blend_at.branch [ then-blend_at w ↦ omega arith | else-blend_at w ↦ omega arith ];
      sums = spread_then c.args.f.width c.args.f.height _ i.sums done.spread (λ k x y hx hy. across (y / unit_of k) c.args.i (x / unit_of k) c.loop-j.j _);
      weights = spread_then c.args.f.width c.args.f.height _ i.weights done.spread_2 (λ k x y hx hy. across (y / unit_of k) c.args.i (x / unit_of k) c.loop-j.j _);
    }

pub returns : goal.returns
returns c =
    let w = c.args.f.width in
    let h = c.args.f.height in
    let i = c.loop-j.invariant in
    let j-is : c.loop-j.j ≡ grid_side w = omega arith in
    let v = rw j-is at i in
    record { value = (v.count, v.few); spread = spread_same w h _ v.sums (λ k x y hk hx hy. ap (gate _) (gate-less _ _ _ (within-grid k w x hx))); spread_2 = spread_same w h _ v.weights (λ k x y hk hx hy. ap (gate _) (gate-less _ _ _ (within-grid k w x hx))) }
