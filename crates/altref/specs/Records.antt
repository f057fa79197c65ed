-- Frame records as numbers. Assumes nothing.
use Rattle.std.specs.Prelude.{List, [], ◌∷◌, ◌++◌, ℕ}
use Rattle.window.specs.declared.Frame.{Frame}

-- the numbers of a frame: document 01's seven in its order, then the cap
abbrev pub numbers_of : Frame → List ℕ
numbers_of f = f.width ∷ f.height ∷ f.y ∷ f.u ∷ f.v ∷ f.luma_stride ∷ f.chroma_stride ∷ f.cap ∷ []

-- the numbers of all frames, one frame after the other
abbrev pub flat : List Frame → List ℕ
flat [] = []
flat (f ∷ fs) = numbers_of f ++ flat fs
