-- Laws of frames as numbers, and that the private definitions are those of Refusals. Assumes nothing.
use Rattle.std.proofs.Common.{◌≡◌, refl, List, ℕ, ◌≤◌, ◌<◌, ◌+◌, ◌*◌, lt-ltb, le-ltb, length, get_or}
use Rattle.window.specs.Frames.{numbers_per_frame, frame_count, number_at, frame_at, zero_frame}
use Rattle.window.specs.Refusals.{Given, centre_of, first_other_sized, first_cap_too_high, first_unfit}
use Rattle.window.specs.Internal.{size_differs, cap_above, planes_unfit, first_frame}

-- a number of a frame that is counted, and of one that is not
module _ (numbers : List ℕ) (g : ℕ) where
  pub number_in : (k : ℕ) → g < frame_count numbers → number_at numbers g k ≡ get_or numbers (g * numbers_per_frame + k) 0
  unfolding number_at
  number_in k h = simp (lt-ltb g (frame_count numbers) h)

  pub number_past : (k : ℕ) → frame_count numbers ≤ g → number_at numbers g k ≡ 0
  unfolding number_at
  number_past k h = simp (le-ltb g (frame_count numbers) h)

-- from the frame count on a frame is the frame of zeros: numbers left over are not read
pub frame_past : (numbers : List ℕ) (g : ℕ) → frame_count numbers ≤ g → frame_at numbers g ≡ zero_frame
frame_past numbers g h =
    simp (
      number_past numbers g 0 h,
      number_past numbers g 1 h,
      number_past numbers g 2 h,
      number_past numbers g 3 h,
      number_past numbers g 4 h,
      number_past numbers g 5 h,
      number_past numbers g 6 h,
      number_past numbers g 7 h,
    )

-- the private functions find what Refusals says
pub record Restated (c : Given) : Type 0 where
  pub sized : first_frame (size_differs (centre_of c)) c.numbers ≡ first_other_sized c
  pub caps : first_frame cap_above c.numbers ≡ first_cap_too_high c
  pub fits : first_frame (planes_unfit (length c.bytes)) c.numbers ≡ first_unfit c

pub restated : (c : Given) → Restated c
unfolding first_other_sized first_cap_too_high first_unfit
restated c = record { sized = refl; caps = refl; fits = refl }
