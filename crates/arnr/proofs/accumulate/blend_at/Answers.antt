-- `arnr::accumulate::blend_at` meets its contract: what the block adds is what the block that covers (x, y) adds, where that is this block. Assumes nothing.
use Rattle.std.proofs.Common.{◌≡◌, sym, ap, ◌∙◌, true, false, ℕ, ◌/◌, eqb}
use Rattle.denoiser.specs.declared.Block.{Block}
use Rattle.denoiser.specs.Grid.{grid_block, unit_of}
use Rattle.denoiser.specs.Chroma.{sample_in, chosen_accepts}
use Rattle.denoiser.specs.Window.{gate, displacement_of, sad_accepted, block_accepted}
use Rattle.denoiser.specs.Pictures.{picture_of}
use Rattle.denoiser.specs.Internal.{Short, chroma_passes, packed_picture, packed_scene, share_by, term_by}
use Rattle.denoiser.proofs.Cover.{taken, uncovered}
use Rattle.denoiser.proofs.Passes.{by_chroma, by_luma}
use Rattle.denoiser.proofs.Pictures.{share-at, term_at}
use Rattle.denoiser.proofs.Searches.{search_reach}
use Rattle.denoiser.proofs.Spreads.{spread_same, spread_none}
use Rattle.arnr.proofs.accumulate.blend_at.Goals as goal

pub blend_planes-requires-clause-short : goal.blend_planes-requires-clause-short
blend_planes-requires-clause-short c =
    let short : Short (displacement_of (packed_scene c.args.f.width c.args.f.height c.args.out.now) (picture_of c.args.bytes.now c.args.f) c.args.i c.args.j) = unfold displacement_of in search_reach _ in
    simp c.motion_at-m.ensures.displacement short

pub returns-then-accepts : goal.returns-then-accepts
unfolding packed_scene
returns-then-accepts c =
    let accepts_is : c.accepts.result ≡ block_accepted (packed_scene c.args.f.width c.args.f.height c.args.out.now) (picture_of c.args.bytes.now c.args.f) c.args.i c.args.j = unfold block_accepted in unfold packed_scene in c.accepts.ensures
    ∙ ap (λ (b : Block). sad_accepted b c.motion_at-m.result.sad) c.grid_block-b.ensures
    ∙ ap (sad_accepted (grid_block c.args.f.width c.args.f.height c.args.i c.args.j)) c.motion_at-m.ensures.sad in
    let f = c.args.f in
    let w = f.width in
    let h = f.height in
    let i = c.args.i in
    let j = c.args.j in
    let out = c.args.out.now in
    let curve = c.args.curve.now.at in
    let o = c.args.choice in
    let half = o.half_sample in
    let scene = packed_scene w h out in
    let picture = picture_of c.args.bytes.now f in
    let passes = chroma_passes o (packed_picture w h out) picture (grid_block w h i j) (displacement_of scene picture i j) in
    let yes : block_accepted scene picture i j ≡ true = sym accepts_is ∙ c.if-accepts.true in
    let by : chosen_accepts o scene picture i j ≡ passes = by_chroma o scene picture i j yes in
    let done = simp (c.grid_block-b.ensures, c.motion_at-m.ensures.displacement) at c.blend_planes.ensures in record {
      value = done.value ∙ sym by;
      spread = spread_same w h _ done.spread
          (λ k x y hk hx hy.
          taken k w h i j x y (chosen_accepts o scene picture) (λ a e. term_by curve (packed_picture w h out k) (sample_in half k (displacement_of scene picture a e) (picture k)) x y) passes hx hy by
          ∙ ap (λ (t : ℕ). gate (eqb (y / unit_of k) i) (gate (eqb (x / unit_of k) j) t)) (sym (term_at o curve scene picture k x y)));
      spread_2 = spread_same w h _ done.spread_2
          (λ k x y hk hx hy.
          taken k w h i j x y (chosen_accepts o scene picture) (λ a e. share_by curve (packed_picture w h out k) (sample_in half k (displacement_of scene picture a e) (picture k)) x y) passes hx hy by
          ∙ ap (λ (t : ℕ). gate (eqb (y / unit_of k) i) (gate (eqb (x / unit_of k) j) t)) (sym (share-at o curve scene picture k x y)));
    }

pub returns-else-accepts : goal.returns-else-accepts
unfolding packed_scene
returns-else-accepts c =
    let accepts_is : c.accepts.result ≡ block_accepted (packed_scene c.args.f.width c.args.f.height c.args.out.now) (picture_of c.args.bytes.now c.args.f) c.args.i c.args.j = unfold block_accepted in unfold packed_scene in c.accepts.ensures
    ∙ ap (λ (b : Block). sad_accepted b c.motion_at-m.result.sad) c.grid_block-b.ensures
    ∙ ap (sad_accepted (grid_block c.args.f.width c.args.f.height c.args.i c.args.j)) c.motion_at-m.ensures.sad in
    let f = c.args.f in
    let w = f.width in
    let h = f.height in
    let i = c.args.i in
    let j = c.args.j in
    let out = c.args.out.now in
    let curve = c.args.curve.now.at in
    let o = c.args.choice in
    let half = o.half_sample in
    let scene = packed_scene w h out in
    let picture = picture_of c.args.bytes.now f in
    let none : chosen_accepts o scene picture i j ≡ false = by_luma o scene picture i j (sym accepts_is ∙ c.if-accepts.false) in record {
      value = c.if-accepts.false ∙ sym none;
      spread = spread_none w h _ c.args.sums.now
          (λ k x y hx hy.
          ap (λ (t : ℕ). gate (eqb (y / unit_of k) i) (gate (eqb (x / unit_of k) j) t)) (term_at o curve scene picture k x y)
          ∙ uncovered k w h i j x y (chosen_accepts o scene picture) (λ a e. term_by curve (packed_picture w h out k) (sample_in half k (displacement_of scene picture a e) (picture k)) x y) none);
      spread_2 = spread_none w h _ c.args.weights.now
          (λ k x y hx hy.
          ap (λ (t : ℕ). gate (eqb (y / unit_of k) i) (gate (eqb (x / unit_of k) j) t)) (share-at o curve scene picture k x y)
          ∙ uncovered k w h i j x y (chosen_accepts o scene picture) (λ a e. share_by curve (packed_picture w h out k) (sample_in half k (displacement_of scene picture a e) (picture k)) x y) none);
    }
