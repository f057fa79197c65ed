-- Refusals 1 to 7 of document 01, in its order, and 29 of document 02 directly after 4. Assumes nothing.
use Rattle.std.specs.Prelude.{Bool, not, ◌||◌, List, [], ◌∷◌, ℕ, ltb, leb, eqb, length, Result}
use Rattle.laws.specs.Outcome.{Outcome, refused, Line, line, first_of, result_outcome}
use Rattle.laws.specs.First.{first_below}
use Rattle.prediction.specs.Plane.{bytes_needed}
use Rattle.prediction.specs.Refusals.{bad_side}
use Rattle.window.specs.declared.Frame.{Frame}
use Rattle.window.specs.declared.Size.{Size}
use Rattle.window.specs.declared.Refusal.{Refusal}
use Rattle.window.specs.declared.Refusal.TheVariants.{NoCentre, TooManyFrames, BadSize, OtherSize, CapTooHigh, PlaneUnfit, ShortOutput, ShortWorking}
use Rattle.window.specs.Layout.{packed_size}
use Rattle.window.specs.Frames.{frame_count, frame_at, plane_of}

-- what a builder call is given: the picture bytes, the numbers of the frames, the centre index, and the lengths of the three lent slices
pub record Given : Type 0 where
  pub bytes : List ℕ
  pub numbers : List ℕ
  pub centre : ℕ
  pub output : ℕ
  pub sums : ℕ
  pub weights : ℕ

abbrev pub given : List ℕ → List ℕ → ℕ → ℕ → ℕ → ℕ → Given
given bytes numbers centre output sums weights =
    record { bytes = bytes; numbers = numbers; centre = centre; output = output; sums = sums; weights = weights }

-- the frame count, frame g, and the centre frame
abbrev pub count_of : Given → ℕ
count_of c = frame_count c.numbers

abbrev pub frame_of : Given → ℕ → Frame
frame_of c g = frame_at c.numbers g

abbrev pub centre_of : Given → Frame
centre_of c = frame_of c c.centre

-- frame g has another size than the centre
abbrev pub other_sized : Given → ℕ → Bool
other_sized c g = not (eqb (frame_of c g).width (centre_of c).width) || not (eqb (frame_of c g).height (centre_of c).height)

-- the cap of frame g exceeds 16
abbrev pub cap_too_high : Given → ℕ → Bool
cap_too_high c g = ltb 16 (frame_of c g).cap

-- plane k of frame g does not fit the picture bytes
abbrev pub plane_unfit : Given → ℕ → ℕ → Bool
plane_unfit c g k = ltb (length c.bytes) (bytes_needed (plane_of c.bytes (frame_of c g) k))

abbrev pub frame_unfit : Given → ℕ → Bool
frame_unfit c g = plane_unfit c g 0 || (plane_unfit c g 1 || plane_unfit c g 2)

-- the first frame of another size, the first whose cap is too high, and the first with a plane that does not fit; the frame count where there is none
unfoldable pub first_other_sized : Given → ℕ
first_other_sized c = first_below (other_sized c) (count_of c)

unfoldable pub first_cap_too_high : Given → ℕ
first_cap_too_high c = first_below (cap_too_high c) (count_of c)

unfoldable pub first_unfit : Given → ℕ
first_unfit c = first_below (frame_unfit c) (count_of c)

-- P of the centre's size
abbrev pub samples_of : Given → ℕ
samples_of c = packed_size (centre_of c).width (centre_of c).height

-- width and height, as a refusal returns them
abbrev pub size_values : Frame → List ℕ → List ℕ
size_values f rest = f.width ∷ f.height ∷ rest

-- 1. The centre index is not below the frame count.
-- 2. The frame count exceeds 1024.
-- 3. The centre's width or height is 0 or above 16383; both are returned.
-- 4. A frame's size differs from the centre's; the first such frame's size and the centre's are returned.
-- 29. A frame's cap exceeds 16; the first such frame's index is returned.
-- 5. A plane does not fit the picture bytes; the first such frame's index is returned.
-- 6. The output slice is shorter than P.
-- 7. Either of the two working slices is shorter than P.
abbrev pub build_lines : Given → List Line
build_lines c =
    line 1 (leb (count_of c) c.centre) []
    ∷ line 2 (ltb 1024 (count_of c)) []
    ∷ line 3 (bad_side (centre_of c).width || bad_side (centre_of c).height) (size_values (centre_of c) [])
    ∷ line 4 (ltb (first_other_sized c) (count_of c)) (size_values (frame_of c (first_other_sized c)) (size_values (centre_of c) []))
    ∷ line 29 (ltb (first_cap_too_high c) (count_of c)) (first_cap_too_high c ∷ [])
    ∷ line 5 (ltb (first_unfit c) (count_of c)) (first_unfit c ∷ [])
    ∷ line 6 (ltb c.output (samples_of c)) []
    ∷ line 7 (ltb c.sums (samples_of c) || ltb c.weights (samples_of c)) []
    ∷ []

-- the number and the values of each refusal
abbrev pub refusal_outcome : {A : Type 0} → Refusal → Outcome A
refusal_outcome NoCentre = refused 1 []
refusal_outcome TooManyFrames = refused 2 []
refusal_outcome (BadSize s) = refused 3 (s.width ∷ s.height ∷ [])
refusal_outcome (OtherSize s c) = refused 4 (s.width ∷ s.height ∷ c.width ∷ c.height ∷ [])
refusal_outcome (CapTooHigh g) = refused 29 (g ∷ [])
refusal_outcome (PlaneUnfit g) = refused 5 (g ∷ [])
refusal_outcome ShortOutput = refused 6 []
refusal_outcome ShortWorking = refused 7 []

-- where nothing is refused the checks find the centre's size
abbrev pub size_of : Frame → Size
size_of f = record { width = f.width; height = f.height }

abbrev pub checked_outcome : Result Size Refusal → Outcome Size
checked_outcome = result_outcome refusal_outcome

unfoldable pub checks : Given → Outcome Size
checks c = first_of (build_lines c) (size_of (centre_of c))
