-- The same frames in any order: what two builder calls have in common, and what they then give alike. Assumes nothing.
use Rattle.std.specs.Prelude.{◌≡◌, Bool, false, take}
use mathlib.Core.List.{List, Perm}
use Rattle.laws.specs.Front.{list_of}
use Rattle.window.specs.declared.Frame.{Frame}
use Rattle.window.specs.Layout.{packed_size}
use Rattle.window.specs.Frames.{frame_count, frame_at}
use Rattle.denoiser.specs.declared.Built.{Built}
use Rattle.denoiser.specs.Demand.{Held}
use Rattle.denoiser.specs.Build.{Request, centre_frame}

-- the frames of a request, in order; numbers left over are not read
unfoldable pub frame_list : Request → List Frame
frame_list q = list_of (frame_count q.numbers) (frame_at q.numbers)

-- the same bytes, strength and centre frame, wherever in its list that stands, and the same frames, repeats included, in any order
pub record SameFrames (p q : Request) : Type 0 where
  pub bytes : p.bytes ≡ q.bytes
  pub strength : p.strength ≡ q.strength
  pub centre : centre_frame p ≡ centre_frame q
  pub frames : Perm (frame_list p) (frame_list q)

-- the same size and accepted count, the same picture, and the same sums and weights where any are made, that is where the centre is
-- not only cropped: the first P entries of each lent slice
pub record SameBuild (crop : Bool) (a b : Built) (held kept : Held) : Type 0 where
  pub answer : a ≡ b
  pub output : take (packed_size a.width a.height) held.output ≡ take (packed_size a.width a.height) kept.output
  pub sums : crop ≡ false → take (packed_size a.width a.height) held.sums ≡ take (packed_size a.width a.height) kept.sums
  pub weights : crop ≡ false → take (packed_size a.width a.height) held.weights ≡ take (packed_size a.width a.height) kept.weights
