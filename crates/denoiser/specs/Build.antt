-- What a builder call is given, and what it answers and leaves in the three lent slices. Assumes nothing.
use Rattle.std.specs.Prelude.{◌≡◌, Bool, false, cond, ◌||◌, List, ◌++◌, ℕ, ◌*◌, ◌/◌, ◌%◌, eqb, length, drop, Result}
use Rattle.laws.specs.Tabulate.{tabulate}
use Rattle.laws.specs.Outcome.{Outcome, accepted, first_of, after, result_outcome}
use Rattle.window.specs.declared.Frame.{Frame}
use Rattle.window.specs.declared.Refusal.{Refusal}
use Rattle.window.specs.Layout.{side_of, packed_size}
use Rattle.window.specs.Frames.{frame_count, frame_at}
use Rattle.window.specs.Refusals.{Given, given, build_lines, refusal_outcome}
use Rattle.denoiser.specs.declared.Built.{Built}
use Rattle.denoiser.specs.Window.{Other, Scene, Window, Rule, centre_at, total_at, sum_at, denoised_at, accepted_blocks, arnr_rule}
use Rattle.denoiser.specs.Chroma.{half_rule, three_rule}
use Rattle.denoiser.specs.Pictures.{picture_of, others_of}
use Rattle.denoiser.specs.Demand.{Held, Demand3}

-- what is asked of a builder: the picture bytes, the numbers of the frames, the centre index and the strength byte
pub record Request : Type 0 where
  pub bytes : List ℕ
  pub numbers : List ℕ
  pub centre : ℕ
  pub strength : ℕ

abbrev pub asked : List ℕ → List ℕ → ℕ → ℕ → Request
asked bytes numbers centre strength = record { bytes = bytes; numbers = numbers; centre = centre; strength = strength }

-- what a builder call is given: that, and the three lent slices
pub record BuildInput : Type 0 where
  pub request : Request
  pub lent : Held

-- what the refusals look at: of the lent slices, their lengths
abbrev pub given_of : BuildInput → Given
given_of b =
    given b.request.bytes b.request.numbers b.request.centre (length b.lent.output) (length b.lent.sums) (length b.lent.weights)

-- the window: the centre frame's size and picture with the strength, and the other frames' pictures and caps
abbrev pub centre_frame : Request → Frame
centre_frame q = frame_at q.numbers q.centre

unfoldable pub scene_of : Request → Scene
scene_of q =
    record { width = (centre_frame q).width; height = (centre_frame q).height; strength = q.strength; centre = picture_of q.bytes (centre_frame q) }

unfoldable pub window_of : Request → Window Other
window_of q = record { scene = scene_of q; others = others_of q.bytes q.numbers q.centre (frame_count q.numbers) }

-- the centre is only cropped: one frame, or strength 0
unfoldable pub cropped : Request → Bool
cropped q = eqb (frame_count q.numbers) 1 || eqb q.strength 0

-- a plane of f, row by row; and Y, U, V, packed
abbrev pub plane_list : ℕ → ℕ → (ℕ → ℕ → ℕ → ℕ) → ℕ → List ℕ
plane_list w h f k = tabulate (side_of k w * side_of k h) (λ i. f k (i % side_of k w) (i / side_of k w))

unfoldable pub packed : ℕ → ℕ → (ℕ → ℕ → ℕ → ℕ) → List ℕ
packed w h f = plane_list w h f 0 ++ (plane_list w h f 1 ++ plane_list w h f 2)

-- a slice whose first P entries are those of f; entries past them are unchanged
unfoldable pub filled : Scene → (ℕ → ℕ → ℕ → ℕ) → List ℕ → List ℕ
filled s f old = packed s.width s.height f ++ drop (packed_size s.width s.height) old

-- the answer of an accepted call: width, height and accepted blocks, 0 where the centre is only cropped
unfoldable pub built_of : (Scene → Rule Other) → Request → Built
built_of rule q =
    record { width = (scene_of q).width; height = (scene_of q).height; accepted = cond (cropped q) 0 (accepted_blocks (rule (scene_of q)) (window_of q)) }

-- the samples of the output: the centre's where it is only cropped, else the denoised ones
unfoldable pub samples_of : (Scene → Rule Other) → Request → ℕ → ℕ → ℕ → ℕ
samples_of rule q = cond (cropped q) (centre_at (scene_of q)) (denoised_at (rule (scene_of q)) (window_of q))

-- the outcome: the first refusal of 1, 2, 3, 4, 29, 5, 6, 7 that applies, or the answer
unfoldable pub outcome_of : (Scene → Rule Other) → BuildInput → Outcome Built
outcome_of rule b = first_of (build_lines (given_of b)) (built_of rule b.request)

-- the number and the values of each refusal, and the answer
abbrev pub build_outcome : Result Built Refusal → Outcome Built
build_outcome = result_outcome refusal_outcome

-- the output after the call: unchanged on a refusal
unfoldable pub output_after : (Scene → Rule Other) → BuildInput → List ℕ
output_after rule b =
    after (outcome_of rule b) b.lent.output (filled (scene_of b.request) (samples_of rule b.request) b.lent.output)

-- a working slice after the call, which held `old` and gets the entries of f: unchanged on a refusal, and where the centre is only cropped
unfoldable pub working_after : (Scene → Rule Other) → BuildInput → (ℕ → ℕ → ℕ → ℕ) → List ℕ → List ℕ
working_after rule b f old = after (outcome_of rule b) old (cond (cropped b.request) old (filled (scene_of b.request) f old))

-- what a builder leaves in the three slices, under a rule, and all of demand 3 where it blends
pub record LeavesBy (rule : Scene → Rule Other) (b : BuildInput) (held : Held) : Type 0 where
  pub output : held.output ≡ output_after rule b
  pub sums : held.sums ≡ working_after rule b (sum_at (rule (scene_of b.request)) (window_of b.request)) b.lent.sums
  pub weights : held.weights ≡ working_after rule b (total_at (rule (scene_of b.request)) (window_of b.request)) b.lent.weights
  pub demand3 : (a : Built) → outcome_of rule b ≡ accepted a → cropped b.request ≡ false → Demand3 (rule (scene_of b.request)) (window_of b.request) held

-- what a builder promises: the answer, and what it leaves
pub record BuildBy (rule : Scene → Rule Other) (b : BuildInput) (r : Result Built Refusal) (held : Held) : Type 0 where
  pub answer : build_outcome r ≡ outcome_of rule b
  pub slices : LeavesBy rule b held

-- the builder of the Rust, with caps; where every cap is 16 it is document 01's (`every-cap_16`)
abbrev pub BuildIs : BuildInput → Result Built Refusal → Held → Type 0
BuildIs b r held = BuildBy arnr_rule b r held

-- the builder with half samples in U and V: the same promise by the other rule
abbrev pub BuildHalf : BuildInput → Result Built Refusal → Held → Type 0
BuildHalf b r held = BuildBy half_rule b r held

-- the builder that accepts on three planes, without half samples or with them
abbrev pub BuildThree : Bool → BuildInput → Result Built Refusal → Held → Type 0
BuildThree half b r held = BuildBy (three_rule half) b r held
