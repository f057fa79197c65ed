-- What the private functions find, over one frame and over the numbers of all. No public contract uses these definitions;
-- `restated` (proofs/Frames.antt) says that they are those of Refusals. Assumes nothing.
use Rattle.std.specs.Prelude.{◌≡◌, Bool, true, false, not, ◌||◌, List, [], ℕ, ◌<◌, ltb, eqb, Option, Some, None}
use Rattle.laws.specs.First.{first_below}
use Rattle.prediction.specs.Plane.{bytes_needed}
use Rattle.window.specs.declared.Frame.{Frame}
use Rattle.window.specs.Frames.{frame_count, frame_at, plane_of}

-- a frame's size differs from the centre's
abbrev pub size_differs : Frame → Frame → Bool
size_differs centre f = not (eqb f.width centre.width) || not (eqb f.height centre.height)

-- a frame's cap exceeds 16
abbrev pub cap_above : Frame → Bool
cap_above f = ltb 16 f.cap

-- plane k of a frame does not fit n bytes, and one of the three does not
abbrev pub plane_short : ℕ → Frame → ℕ → Bool
plane_short n f k = ltb n (bytes_needed (plane_of [] f k))

abbrev pub planes_unfit : ℕ → Frame → Bool
planes_unfit n f = plane_short n f 0 || (plane_short n f 1 || plane_short n f 2)

-- the first frame with such a property; the frame count where there is none
abbrev pub first_frame : (Frame → Bool) → List ℕ → ℕ
first_frame p numbers = first_below (λ g. p (frame_at numbers g)) (frame_count numbers)

-- frame g is the first of which a test answers true
pub record First (says : Frame → Bool → Type 0) (numbers : List ℕ) (g : ℕ) : Type 0 where
  pub within : g < frame_count numbers
  pub here : says (frame_at numbers g) true
  pub before : (j : ℕ) → j < g → says (frame_at numbers j) false

-- what a search over the frames finds, by what a test may answer of a frame: the first frame of which it answers true, if there is one
pub record FirstBy (says : Frame → Bool → Type 0) (numbers : List ℕ) (r : Option ℕ) : Type 0 where
  pub none : r ≡ None → (j : ℕ) → j < frame_count numbers → says (frame_at numbers j) false
  pub some : (g : ℕ) → r ≡ Some g → First says numbers g
