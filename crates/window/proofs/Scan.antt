-- What a search over the frames by a test finds: the first frame with the property that is tested. Assumes nothing.
use Rattle.std.proofs.Common.{◌≡◌, ℕ, ◌<◌, Bool, true, false, List, Option, Some, None, sym, arith}
use Rattle.laws.proofs.First.{found, not_found}
use Rattle.window.specs.declared.Frame.{Frame}
use Rattle.window.specs.Frames.{frame_count, frame_at}
use Rattle.window.specs.Internal.{FirstBy, first_frame}

module _ {says : Frame → Bool → Type 0} {numbers : List ℕ} {r : Option ℕ} (p : Frame → Bool) (fits : (f : Frame) (b : Bool) → says f b → b ≡ p f) (h : FirstBy says numbers r) where
  pub some_first : (g : ℕ) → r ≡ Some g → (g ≡ first_frame p numbers) × (g < frame_count numbers)
  some_first g e =
      let f = h.some g e in (
        found (λ j. p (frame_at numbers j)) (frame_count numbers) g (λ j l. sym (fits (frame_at numbers j) false (f.before j l))) f.within (sym (fits (frame_at numbers g) true f.here)),
        f.within,
      )

  pub none_first : r ≡ None → frame_count numbers ≡ first_frame p numbers
  none_first e = not_found (λ j. p (frame_at numbers j)) (frame_count numbers) (frame_count numbers) (λ j l. sym (fits (frame_at numbers j) false (h.none e j l))) (omega arith) (omega arith)
