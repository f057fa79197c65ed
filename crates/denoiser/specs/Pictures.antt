-- The pictures of frames that are given as numbers, and the other frames of a window. Assumes nothing.
use Rattle.std.specs.Prelude.{cond, List, [], ◌∷◌, ◌++◌, map, ℕ, zero, suc, eqb}
use Rattle.prediction.specs.Plane.{sample_at}
use Rattle.window.specs.declared.Frame.{Frame}
use Rattle.window.specs.Frames.{plane_of, frame_at}
use Rattle.denoiser.specs.Window.{Picture, Other}

-- a frame's picture: the samples of its planes
unfoldable pub picture_of : List ℕ → Frame → Picture
picture_of bytes f k = sample_at (plane_of bytes f k)

-- a frame as another frame of a window: its picture and its cap
abbrev pub other_of : List ℕ → Frame → Other
other_of bytes f = record { picture = picture_of bytes f; cap = f.cap }

-- the numbers below n but c, in order
unfoldable pub all_but : ℕ → ℕ → List ℕ
all_but c zero = []
all_but c (suc n) = cond (eqb n c) (all_but c n) (all_but c n ++ (n ∷ []))

-- all n entries of the frame list but the one at the index c, each repeat counted
unfoldable pub others_of : List ℕ → List ℕ → ℕ → ℕ → List Other
others_of bytes numbers c n = map (λ g. other_of bytes (frame_at numbers g)) (all_but c n)
