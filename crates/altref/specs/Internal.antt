-- The array that holds the records' numbers, and what the private functions promise over it. No public contract uses these definitions.
-- Assumes nothing.
use Rattle.std.specs.Prelude.{◌≡◌, cond, List, [], ◌∷◌, ℕ, zero, suc, ◌+◌, ◌*◌, ◌≤◌, leb, length, set, get_or, replicate, take, Result}
use Rattle.window.specs.declared.Frame.{Frame}
use Rattle.window.specs.declared.Refusal.{Refusal}
use Rattle.window.specs.Frames.{numbers_per_frame, zero_frame}
use Rattle.denoiser.specs.declared.Built.{Built}
use Rattle.denoiser.specs.Demand.{Held}
use Rattle.denoiser.specs.Window.{Other, Scene, Rule, arnr_rule}
use Rattle.denoiser.specs.Build.{asked, BuildBy}
use Rattle.altref.specs.Records.{numbers_of}

-- the most frames that are not refused, and the size of the array that holds the numbers of so many
abbrev pub max_frames : ℕ
max_frames = 1024

abbrev pub array_size : ℕ
array_size = max_frames * numbers_per_frame

-- xs with the numbers ns from place k on
abbrev pub put_at : List ℕ → ℕ → List ℕ → List ℕ
put_at xs k [] = xs
put_at xs k (n ∷ ns) = put_at (set xs k n) (k + 1) ns

-- xs with the numbers of f at the place of frame i
abbrev pub put_frame : List ℕ → ℕ → Frame → List ℕ
put_frame xs i f = put_at xs (i * numbers_per_frame) (numbers_of f)

-- the array with the numbers of the first i frames; zeros follow
abbrev pub filled : List Frame → ℕ → List ℕ
filled fs zero = replicate array_size 0
filled fs (suc i) = put_frame (filled fs i) i (get_or fs i zero_frame)

-- how many of `count` frames are taken into the array
abbrev pub taken_of : ℕ → ℕ
taken_of count = cond (leb count max_frames) count 0

-- xs is as long as the numbers of `count` frames, and where these are not too many the array begins with xs
abbrev pub Begins : List ℕ → List ℕ → ℕ → Type 0
Begins xs numbers count = (length xs ≡ count * numbers_per_frame) × (count ≤ max_frames → take (count * numbers_per_frame) numbers ≡ xs)

-- what is promised over an array and a count, under a rule: what a builder promises over any list of numbers that the array begins with
abbrev pub OverArrayBy : (Scene → Rule Other) → List ℕ → List ℕ → ℕ → ℕ → ℕ → Held → Result Built Refusal → Held → Type 0
OverArrayBy rule bytes numbers count centre strength lent r held =
    (xs : List ℕ) → Begins xs numbers count → BuildBy rule (record { request = asked bytes xs centre strength; lent = lent }) r held

-- the same of the first builder
abbrev pub OverArray : List ℕ → List ℕ → ℕ → ℕ → ℕ → Held → Result Built Refusal → Held → Type 0
OverArray bytes numbers count centre strength lent r held = OverArrayBy arnr_rule bytes numbers count centre strength lent r held
