-- `arnr::accumulate::blend_filtered` meets its contract: each plane takes up room for one frame, and what the two blocks add is what the half samples add.
-- Assumes nothing.
use Rattle.std.proofs.Common.{◌≡◌, ap, ◌∙◌, true, List, ℕ, ◌<◌, pos, length, arith, rules}
use Rattle.prediction.specs.Prediction.{square_of}
use Rattle.window.specs.declared.Frame.{Frame}
use Rattle.window.specs.Layout.{side_of, offset_of}
use Rattle.denoiser.specs.declared.Block.{Block}
use Rattle.denoiser.specs.declared.Displacement.{Displacement}
use Rattle.denoiser.specs.Grid.{block_in}
use Rattle.denoiser.specs.Chroma.{half_sample}
use Rattle.denoiser.specs.Window.{gate}
use Rattle.denoiser.specs.Pictures.{picture_of}
use Rattle.denoiser.specs.Internal.{Lies, Slack, Placed, within, term_by, share_by, packed_picture, block_samples}
use Rattle.denoiser.proofs.Halves.{sample_in-byte, half_term, half-share, square-long, chroma_block}
use Rattle.denoiser.proofs.Pictures.{picture-byte}
use Rattle.denoiser.proofs.Place.{placed_same}
use Rattle.denoiser.proofs.Spreads.{plane_slack, slack_less, spread_three}
use Rattle.arnr.proofs.accumulate.blend_filtered.Goals as goal

-- what a block of U or V adds
module _ (f : Frame) (b : Block) (d : Displacement) (bytes curve out : List ℕ) (lies : Lies b f.width f.height) (k : ℕ) (some : 0 < k) (block : List ℕ) (is : block ≡ square_of 8 (pos (block_in k b).x) (pos (block_in k b).y) (half_sample d (picture_of bytes f k)))
    (old now : List ℕ) where
  terms : Placed (offset_of k f.width f.height) (side_of k f.width) (side_of k f.height) (λ x y. gate (within (block_in k b) x y) (term_by curve (packed_picture f.width f.height out k) (block_samples block (block_in k b).x (block_in k b).y) x y)) old now
      → Placed (offset_of k f.width f.height) (side_of k f.width) (side_of k f.height) (λ x y. gate (within (block_in k b) x y) (term_by curve (packed_picture f.width f.height out k) (half_sample d (picture_of bytes f k)) x y)) old now
  terms p =
      let eight = chroma_block k b some lies.slim lies.low in
      placed_same _ _ _ _ p (λ x y. half_term curve _ d (picture_of bytes f k) (block_in k b) eight.0 eight.1 block is x y)

  shares : Placed (offset_of k f.width f.height) (side_of k f.width) (side_of k f.height) (λ x y. gate (within (block_in k b) x y) (share_by curve (packed_picture f.width f.height out k) (block_samples block (block_in k b).x (block_in k b).y) x y)) old now
      → Placed (offset_of k f.width f.height) (side_of k f.width) (side_of k f.height) (λ x y. gate (within (block_in k b) x y) (share_by curve (packed_picture f.width f.height out k) (half_sample d (picture_of bytes f k)) x y)) old now
  shares p =
      let eight = chroma_block k b some lies.slim lies.low in
      placed_same _ _ _ _ p (λ x y. half-share curve _ d (picture_of bytes f k) (block_in k b) eight.0 eight.1 block is x y)

pub blend_half-requires-clause-k_nonzero : goal.blend_half-requires-clause-k_nonzero
blend_half-requires-clause-k_nonzero c = (omega arith, omega arith, ap length c.requires.u_value ∙ square-long _ _ _)

pub blend_half-requires-clause-width_nonzero : goal.blend_half-requires-clause-width_nonzero
blend_half-requires-clause-width_nonzero c = let f = c.requires.whole.fits 0 (omega arith) in (f.wide.0, f.wide.1, f.high.1)

pub blend_half-requires-clause-slack : goal.blend_half-requires-clause-slack
blend_half-requires-clause-slack c = slack_less 2 3 _ _ (omega arith)
    (plane_slack c.args.f.width c.args.f.height c.args.b 0 c.args.curve.now.at c.args.out.now _ c.args.curve.now.light (c.requires.whole.fits 0 (omega arith)).wide.0
    (λ x y. picture-byte c.args.bytes.now c.args.f (λ i. search rules) 0 _ _) c.blend_in.ensures.placed c.blend_in.ensures.placed_2 3 c.requires.slack)

pub blend_half-requires-2-clause-k_nonzero : goal.blend_half-requires-2-clause-k_nonzero
blend_half-requires-2-clause-k_nonzero c = (omega arith, omega arith, ap length c.requires.v_value ∙ square-long _ _ _)

pub blend_half-requires-2-clause-width_nonzero : goal.blend_half-requires-2-clause-width_nonzero
blend_half-requires-2-clause-width_nonzero c = let f = c.requires.whole.fits 0 (omega arith) in (f.wide.0, f.wide.1, f.high.1)

pub blend_half-requires-2-clause-slack : goal.blend_half-requires-2-clause-slack
blend_half-requires-2-clause-slack c =
    let slack_y : Slack 3 c.blend_in.new.sums c.blend_in.new.weights = plane_slack c.args.f.width c.args.f.height c.args.b 0 c.args.curve.now.at c.args.out.now _ c.args.curve.now.light (c.requires.whole.fits 0 (omega arith)).wide.0
    (λ x y. picture-byte c.args.bytes.now c.args.f (λ i. search rules) 0 _ _) c.blend_in.ensures.placed c.blend_in.ensures.placed_2 3 c.requires.slack in
    let add = c.blend_half.ensures in
    plane_slack c.args.f.width c.args.f.height c.args.b 1 c.args.curve.now.at c.args.out.now _ c.args.curve.now.light (c.requires.whole.fits 1 (omega arith)).wide.0
    (sample_in-byte true 1 c.args.d (picture_of c.args.bytes.now c.args.f 1) (picture-byte c.args.bytes.now c.args.f (λ i. search rules) 1))
    (terms c.args.f c.args.b c.args.d c.args.bytes.now c.args.curve.now.at c.args.out.now c.requires.lies 1 (omega arith) _ c.requires.u_value _ _ add.placed)
    (shares c.args.f c.args.b c.args.d c.args.bytes.now c.args.curve.now.at c.args.out.now c.requires.lies 1 (omega arith) _ c.requires.u_value _ _ add.placed_2) 2 slack_y

pub returns : goal.returns
returns c =
    let w = c.args.f.width in
    let h = c.args.f.height in
    let y = c.blend_in.ensures in
    let u = c.blend_half.ensures in
    let v = c.blend_half-2.ensures in
    let first = c.requires.u_value in
    let second = c.requires.v_value in record { spread = spread_three w h _ y.placed (terms c.args.f c.args.b c.args.d c.args.bytes.now c.args.curve.now.at c.args.out.now c.requires.lies 1 (omega arith) _ first _ _ u.placed) (terms c.args.f c.args.b c.args.d c.args.bytes.now c.args.curve.now.at c.args.out.now c.requires.lies 2 (omega arith) _ second _ _ v.placed); spread_2 = spread_three w h _ y.placed_2 (shares c.args.f c.args.b c.args.d c.args.bytes.now c.args.curve.now.at c.args.out.now c.requires.lies 1 (omega arith) _ first _ _ u.placed_2) (shares c.args.f c.args.b c.args.d c.args.bytes.now c.args.curve.now.at c.args.out.now c.requires.lies 2 (omega arith) _ second _ _ v.placed_2) }
