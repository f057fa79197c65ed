-- `arnr::accumulate::blend_planes` meets its contract: filtered or copied, and added where U and V pass. Assumes nothing.
use Rattle.std.proofs.Common.{◌≡◌, sym, ap, ◌∙◌, Bool, true, false, ℕ, ◌<◌, pos, get_or, rules}
use Rattle.denoiser.specs.Grid.{block_in}
use Rattle.denoiser.specs.Chroma.{sample_in}
use Rattle.denoiser.specs.Window.{gate}
use Rattle.denoiser.specs.Pictures.{picture_of}
use Rattle.denoiser.specs.Internal.{within, term_by, share_by, packed_picture, chroma_passes}
use Rattle.denoiser.proofs.Gates.{gate_on, gate_off}
use Rattle.denoiser.proofs.Halves.{copied_is, all_copied, filtered-half}
use Rattle.denoiser.proofs.Passes.{copies_are, squares_are}
use Rattle.denoiser.proofs.Pictures.{picture-byte}
use Rattle.denoiser.proofs.Place.{term_goes, share_goes}
use Rattle.denoiser.proofs.Spreads.{spread_none, spread_same}
use Rattle.arnr.proofs.accumulate.blend_planes.Goals as goal

pub returns-then-squares_pass : goal.returns-then-squares_pass
returns-then-squares_pass c =
    let passes = chroma_passes c.args.choice (packed_picture c.args.f.width c.args.f.height c.args.out.now) (picture_of c.args.bytes.now c.args.f) c.args.b c.args.d in
    let squares_tell : c.squares_pass.result ≡ passes = c.squares_pass.ensures
    ∙ squares_are c.args.choice (packed_picture c.args.f.width c.args.f.height c.args.out.now) c.args.bytes.now c.args.f c.args.b c.args.d c.requires.lies.slim c.requires.lies.low _ _
    (sym c.filters.ensures ∙ c.if-filters.true) c.filtered-u.ensures c.filtered-v.ensures in
    let w = c.args.f.width in
    let h = c.args.f.height in
    let curve = c.args.curve.now.at in
    let out = c.args.out.now in
    let picture = picture_of c.args.bytes.now c.args.f in
    let yes : passes ≡ true = sym squares_tell ∙ c.if-squares_pass.true in
    let half = sym (filtered-half c.args.choice.half_sample 1 c.args.d (sym c.filters.ensures ∙ c.if-filters.true)) in
    let done = c.blend_filtered.ensures in record {
      value = sym yes;
      spread = spread_same w h _ done.spread (λ k x y hk hx hy.
          ap (λ (t : Bool). gate (within (block_in k c.args.b) x y) (term_by curve (packed_picture w h out k) (sample_in t k c.args.d (picture k)) x y)) half ∙ sym (gate_on passes _ yes));
      spread_2 = spread_same w h _ done.spread_2 (λ k x y hk hx hy.
          ap (λ (t : Bool). gate (within (block_in k c.args.b) x y) (share_by curve (packed_picture w h out k) (sample_in t k c.args.d (picture k)) x y)) half ∙ sym (gate_on passes _ yes));
    }

pub returns-then-filters : goal.returns-then-filters
returns-then-filters c =
    let passes = chroma_passes c.args.choice (packed_picture c.args.f.width c.args.f.height c.args.out.now) (picture_of c.args.bytes.now c.args.f) c.args.b c.args.d in
    let squares_tell : c.squares_pass.result ≡ passes = c.squares_pass.ensures
    ∙ squares_are c.args.choice (packed_picture c.args.f.width c.args.f.height c.args.out.now) c.args.bytes.now c.args.f c.args.b c.args.d c.requires.lies.slim c.requires.lies.low _ _
    (sym c.filters.ensures ∙ c.if-filters.true) c.filtered-u.ensures c.filtered-v.ensures in
    let none : passes ≡ false = sym squares_tell ∙ c.if-squares_pass.false in
    let shut : (v : ℕ) → gate passes v ≡ 0 = λ v. ap (λ (t : Bool). gate t v) none ∙ gate_off v in
    record { value = sym none; spread = spread_none _ _ _ _ (λ k x y hx hy. shut _); spread_2 = spread_none _ _ _ _ (λ k x y hx hy. shut _) }

pub returns-then-copies_pass : goal.returns-then-copies_pass
returns-then-copies_pass c =
    let passes = chroma_passes c.args.choice (packed_picture c.args.f.width c.args.f.height c.args.out.now) (picture_of c.args.bytes.now c.args.f) c.args.b c.args.d in
    let copies_tell : c.copies_pass.result ≡ passes = c.copies_pass.ensures
    ∙ copies_are c.args.choice (packed_picture c.args.f.width c.args.f.height c.args.out.now) c.args.bytes.now c.args.f c.args.b c.args.d
    (sym c.filters.ensures ∙ c.if-filters.false) (λ i. search rules) in
    let w = c.args.f.width in
    let h = c.args.f.height in
    let half = c.args.choice.half_sample in
    let picture = picture_of c.args.bytes.now c.args.f in
    let yes : passes ≡ true = sym copies_tell ∙ c.if-copies_pass.true in
    let copied = all_copied half c.args.d (sym c.filters.ensures ∙ c.if-filters.false) in
    let byte : (i : ℕ) → get_or c.args.bytes.now i 0 < 256 = λ i. search rules in
    let done = c.blend_copied.ensures in record {
      value = sym yes;
      spread = spread_same w h _ done.spread (λ k x y hk hx hy.
          ap (gate (within (block_in k c.args.b) x y)) (term_goes c.args.curve.now.at _ _ _ x y (sym (copied_is half k c.args.d (picture k) (copied k) (picture-byte c.args.bytes.now c.args.f byte k) (pos x) (pos y)))) ∙ sym (gate_on passes _ yes));
      spread_2 = spread_same w h _ done.spread_2 (λ k x y hk hx hy.
          ap (gate (within (block_in k c.args.b) x y)) (share_goes c.args.curve.now.at _ _ _ x y (sym (copied_is half k c.args.d (picture k) (copied k) (picture-byte c.args.bytes.now c.args.f byte k) (pos x) (pos y)))) ∙ sym (gate_on passes _ yes));
    }

pub returns : goal.returns
returns c =
    let passes = chroma_passes c.args.choice (packed_picture c.args.f.width c.args.f.height c.args.out.now) (picture_of c.args.bytes.now c.args.f) c.args.b c.args.d in
    let copies_tell : c.copies_pass.result ≡ passes = c.copies_pass.ensures
    ∙ copies_are c.args.choice (packed_picture c.args.f.width c.args.f.height c.args.out.now) c.args.bytes.now c.args.f c.args.b c.args.d
    (sym c.filters.ensures ∙ c.if-filters.false) (λ i. search rules) in
    let none : passes ≡ false = sym copies_tell ∙ c.if-copies_pass.false in
    let shut : (v : ℕ) → gate passes v ≡ 0 = λ v. ap (λ (t : Bool). gate t v) none ∙ gate_off v in
    record { value = sym none; spread = spread_none _ _ _ _ (λ k x y hx hy. shut _); spread_2 = spread_none _ _ _ _ (λ k x y hx hy. shut _) }
