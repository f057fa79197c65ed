-- Records are read back as they were given: frame g of the records' numbers is record g, and there are as many. Assumes nothing.
use Rattle.std.proofs.Common.{◌≡◌, refl, sym, ap, ◌∙◌, List, [], ◌∷◌, ◌++◌, ℕ, zero, suc, ◌+◌, ◌*◌, ◌<◌, arith, length, get_or, get_or-append-add}
use Rattle.std.proofs.Math.Decide.{dec_lt}
use Rattle.std.proofs.Math.ListN.{get_or-eq_default}
use Rattle.window.specs.declared.Frame.{Frame}
use Rattle.window.specs.Frames.{numbers_per_frame, frame_count, number_at, frame_at, zero_frame}
use Rattle.window.proofs.Frames.{number_in, frame_past}
use Rattle.altref.specs.Records.{numbers_of, flat}
use Rattle.altref.proofs.Laws.{length-flat}

pub read_count : (fs : List Frame) → frame_count (flat fs) ≡ length fs
read_count fs = omega (arith, length-flat fs)

-- a frame by its eight numbers
abbrev frame_by : (ℕ → ℕ) → Frame
frame_by n = record { width = n 0; height = n 1; y = n 2; u = n 3; v = n 4; luma_stride = n 5; chroma_stride = n 6; cap = n 7 }

same_frame : (m n : ℕ → ℕ) → ((k : ℕ) → m k ≡ n k) → frame_by m ≡ frame_by n
same_frame m n e = simp e

-- the number that stands at the place of number k of frame g
abbrev placed : List ℕ → ℕ → ℕ → ℕ
placed xs g k = get_or xs (g * numbers_per_frame + k) 0

-- past the first frame, the numbers are those of the others
past_first : (f : Frame) (xs : List ℕ) (g k : ℕ) → placed (numbers_of f ++ xs) (suc g) k ≡ placed xs g k
past_first f xs g k = ap (λ (i : ℕ). get_or (numbers_of f ++ xs) i 0) next ∙ get_or-append-add (numbers_of f) xs (g * numbers_per_frame + k) 0
  where
    next : suc g * numbers_per_frame + k ≡ numbers_per_frame + (g * numbers_per_frame + k)
    next = omega arith

placed-back : (fs : List Frame) (g : ℕ) → frame_by (placed (flat fs) g) ≡ get_or fs g zero_frame
placed-back [] g = refl
placed-back (f ∷ fs) zero = refl
placed-back (f ∷ fs) (suc g) = same_frame (placed (flat (f ∷ fs)) (suc g)) (placed (flat fs) g) (past_first f (flat fs) g) ∙ placed-back fs g

-- past the last record both are zeros
pub read_back : (fs : List Frame) (g : ℕ) → frame_at (flat fs) g ≡ get_or fs g zero_frame
read_back fs g = by (dec_lt g (length fs))
  where
    by : Dec (g < length fs) → frame_at (flat fs) g ≡ get_or fs g zero_frame
    by (yes l) =
        same_frame (number_at (flat fs) g) (placed (flat fs) g) (λ k. number_in (flat fs) g k (omega (arith, read_count fs))) ∙ placed-back fs g
    by (no l) = frame_past (flat fs) g (omega (arith, read_count fs)) ∙ sym (get_or-eq_default fs zero_frame (omega arith))
