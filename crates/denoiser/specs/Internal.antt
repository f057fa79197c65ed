-- What the private contracts of the crate `arnr` speak of: parts of the lent slices, and what is added to them. No public contract uses these. Assumes nothing.
use Rattle.std.specs.Prelude.{◌≡◌, Bool, true, false, cond, ◌&&◌, List, ℕ, zero, suc, ◌+◌, ◌-◌, ◌*◌, ◌/◌, ◌%◌, ◌^◌, ◌≤◌, ◌<◌, min, leb, ltb, ℤ, pos, ◌-ℤ◌, length, get_or}
use Rattle.laws.specs.Signed.{above, below}
use Rattle.laws.specs.Sums.{sum_below}
use Rattle.laws.specs.Tabulate.{tabulate}
use Rattle.laws.specs.Best.{best_of}
use Rattle.prediction.specs.Samples.{distance}
use Rattle.prediction.specs.Plane.{Samples, Plane, sample_at, bytes_needed}
use Rattle.prediction.specs.Filter.{sixtap}
use Rattle.filters.specs.Internal.{window, filtered_list}
use Rattle.window.specs.declared.Frame.{Frame}
use Rattle.window.specs.Layout.{side_of, offset_of, packed_size, place_of}
use Rattle.weights.specs.Blend.{denoised}
use Rattle.window.specs.Frames.{start_of, stride_of, frame_at, frame_count}
use Rattle.denoiser.specs.declared.Block.{Block}
use Rattle.denoiser.specs.declared.Displacement.{Displacement}
use Rattle.denoiser.specs.declared.PlaneNumbers.{PlaneNumbers}
use Rattle.denoiser.specs.declared.Motion.{Motion}
use Rattle.denoiser.specs.declared.Choice.{Choice}
use Rattle.denoiser.specs.Search.{sad_of, displaced_by, neighbour_of}
use Rattle.denoiser.specs.Window.{Picture, Other, Scene, Rule, share_of, sum_at, total_at, denoised_at, accepted_in, accepted_blocks, sad_accepted}
use Rattle.denoiser.specs.Grid.{block_in}
use Rattle.denoiser.specs.Chroma.{half_down, half_row, sample_in, chosen_sample, chosen_accepts}
use Rattle.denoiser.specs.Demand.{Held}
use Rattle.denoiser.specs.Build.{Request, scene_of, window_of, cropped, packed, filled, built_of, samples_of}

-- the numbers of plane k of a frame, and the plane of such numbers in the bytes
abbrev pub numbers_of : Frame → ℕ → PlaneNumbers
numbers_of f k = record { start = start_of k f; stride = stride_of k f; columns = side_of k f.width; rows = side_of k f.height }

abbrev pub plane_in : List ℕ → PlaneNumbers → Plane
plane_in bytes p = record { bytes = bytes; start = p.start; stride = p.stride; columns = p.columns; rows = p.rows }

-- the plane that stands packed in a list, from `at` on
abbrev pub packed_plane : ℕ → ℕ → ℕ → List ℕ → Plane
packed_plane at columns rows l = record { bytes = l; start = at; stride = columns; columns = columns; rows = rows }

-- the plane's last row ends within the bytes, and its size is legal
pub record Fits (bytes : List ℕ) (p : PlaneNumbers) : Type 0 where
  pub fits : bytes_needed (plane_in bytes p) ≤ length bytes
  pub wide : (0 < p.columns) × (p.columns ≤ 16383)
  pub high : (0 < p.rows) × (p.rows ≤ 16383)

-- every plane of the frame does
pub record Whole (bytes : List ℕ) (f : Frame) : Type 0 where
  pub fits : (k : ℕ) → k < 3 → Fits bytes (numbers_of f k)

-- each component of the displacement is -m to m
pub record Reach (m : ℕ) (d : Displacement) : Type 0 where
  pub right : above d.dx ≤ m
  pub left : below d.dx ≤ m
  pub down : above d.dy ≤ m
  pub up : below d.dy ≤ m

abbrev pub Short : Displacement → Type 0
Short d = Reach 15 d

-- n samples from (x, y) on lie in one row of a plane
pub record Span (columns rows x y n : ℕ) : Type 0 where
  pub short : n ≤ 16
  pub wide : x + n ≤ columns
  pub high : y < rows

-- n samples from (x, y) on, in the plane or so near to it that no coordinate grows large
pub record Near (x y n : ℕ) : Type 0 where
  pub short : n ≤ 16
  pub wide : x ≤ 16383
  pub high : y < 16400

-- there are columns, n of them from x on, and all lie among 0 .. columns - 1 once moved by d
pub record Runs (x n : ℕ) (d : ℤ) (columns : ℕ) : Type 0 where
  pub some : 0 < n
  pub left : below d ≤ x + above d
  pub right : x + above d + n ≤ columns + below d

-- a block lies in a plane
pub record Lies (b : Block) (columns rows : ℕ) : Type 0 where
  pub slim : b.columns ≤ 16
  pub low : b.rows ≤ 16
  pub wide : b.x + b.columns ≤ columns
  pub high : b.y + b.rows ≤ rows

-- each of the three lent slices holds at least n entries
pub record Lent (n : ℕ) (out sums weights : List ℕ) : Type 0 where
  pub in_out : n ≤ length out
  pub in_sums : n ≤ length sums
  pub in_weights : n ≤ length weights

-- the cost of a displacement: the SAD of a block of the packed centre plane and the displaced block of a plane
unfoldable pub luma_cost : List ℕ → List ℕ → PlaneNumbers → Block → Displacement → ℕ
luma_cost centre bytes p b d = sad_of (sample_at (packed_plane 0 p.columns p.rows centre)) (displaced_by d (sample_at (plane_in bytes p))) b

-- row i of that SAD
unfoldable pub luma_row : List ℕ → List ℕ → PlaneNumbers → Block → Displacement → ℕ → ℕ
luma_row centre bytes p b d i =
    sum_below (λ j. distance (sample_at (packed_plane 0 p.columns p.rows centre) (pos (b.x + j)) (pos (b.y + i)))
    (displaced_by d (sample_at (plane_in bytes p)) (pos (b.x + j)) (pos (b.y + i)))) b.columns

-- row i of any SAD
unfoldable pub sad_row : Samples → Samples → Block → ℕ → ℕ
sad_row a b r i = sum_below (λ j. distance (a (pos (r.x + j)) (pos (r.y + i))) (b (pos (r.x + j)) (pos (r.y + i)))) r.columns

-- the SAD of row r of two blocks of 8 columns, each from a place on and a stride apart from row to row
unfoldable pub eight_apart : List ℕ → ℕ → ℕ → List ℕ → ℕ → ℕ → ℕ → ℕ
eight_apart a at stride b from across r = sum_below (λ k. distance (get_or a (at + r * stride + k) 0) (get_or b (from + r * across + k) 0)) 8

-- one step by itself: the best of a displacement and its eight neighbours
unfoldable pub step_best : (Displacement → ℕ) → ℕ → Displacement → Displacement
step_best cost step best = best_of cost best (neighbour_of best step) 8

-- a displacement with its cost
pub record Measured (cost : Displacement → ℕ) (d : Displacement) (m : Motion) : Type 0 where
  pub displacement : m.displacement ≡ d
  pub sad : m.sad ≡ cost d

-- n more fits a 32-bit number at every place; n frames more fit both working slices
abbrev pub Room : ℕ → List ℕ → Type 0
Room n l = (k : ℕ) → get_or l k 0 + n < 2 ^ 32

pub record Slack (n : ℕ) (sums weights : List ℕ) : Type 0 where
  pub of_sums : Room (n * 4080) sums
  pub of_weights : Room (n * 16) weights

-- no weight of the curve exceeds 16
abbrev pub Light : List ℕ → Type 0
Light curve = (e : ℕ) → get_or curve e 0 ≤ 16

-- x is one of the n numbers from a on; (x, y) is in the block
unfoldable pub between : ℕ → ℕ → ℕ → Bool
between a n x = leb a x && ltb x (a + n)

unfoldable pub within : Block → ℕ → ℕ → Bool
within b x y = between b.y b.rows y && between b.x b.columns x

-- of two rows: the distance at place k, the curve's weight of it, and the weight times the second's sample
unfoldable pub row_distance : List ℕ → List ℕ → ℕ → ℕ
row_distance a b k = distance (get_or a k 0) (get_or b k 0)

unfoldable pub row_share : List ℕ → List ℕ → List ℕ → ℕ → ℕ
row_share curve centre displaced k = get_or curve (distance (get_or displaced k 0) (get_or centre k 0)) 0

unfoldable pub row_term : List ℕ → List ℕ → List ℕ → ℕ → ℕ
row_term curve centre displaced k = row_share curve centre displaced k * get_or displaced k 0

-- the same of two sample functions, at (x, y)
unfoldable pub share_by : List ℕ → Samples → Samples → ℕ → ℕ → ℕ
share_by curve c s x y = get_or curve (distance (s (pos x) (pos y)) (c (pos x) (pos y))) 0

unfoldable pub term_by : List ℕ → Samples → Samples → ℕ → ℕ → ℕ
term_by curve c s x y = share_by curve c s x y * s (pos x) (pos y)

-- `now` is `old` with f k added at each place k below n; what follows is as it was
pub record Raised (f : ℕ → ℕ) (n : ℕ) (old now : List ℕ) : Type 0 where
  pub long : length now ≡ length old
  pub within : (k : ℕ) → k < n → get_or now k 0 ≡ get_or old k 0 + f k
  pub past : (k : ℕ) → n ≤ k → get_or now k 0 ≡ get_or old k 0

-- `now` is `old` with f x y added at each sample of the plane that starts at `at`, and nothing elsewhere
pub record Placed (at columns rows : ℕ) (f : ℕ → ℕ → ℕ) (old now : List ℕ) : Type 0 where
  pub long : length now ≡ length old
  pub inside : (x y : ℕ) → x < columns → y < rows → get_or now (at + (y * columns + x)) 0 ≡ get_or old (at + (y * columns + x)) 0 + f x y
  pub before : (k : ℕ) → k < at → get_or now k 0 ≡ get_or old k 0
  pub after : (k : ℕ) → at + columns * rows ≤ k → get_or now k 0 ≡ get_or old k 0

-- `now` is `old` with f k x y added at each sample (x, y) of each plane k; what follows the planes is as it was
pub record Spread (w h : ℕ) (f : ℕ → ℕ → ℕ → ℕ) (old now : List ℕ) : Type 0 where
  pub long : length now ≡ length old
  pub at : (k x y : ℕ) → k < 3 → x < side_of k w → y < side_of k h → get_or now (place_of w h k x y) 0 ≡ get_or old (place_of w h k x y) 0 + f k x y
  pub past : (i : ℕ) → packed_size w h ≤ i → get_or now i 0 ≡ get_or old i 0

-- the picture that stands packed in a list, and the scene of it as the code has it, with no strength
unfoldable pub packed_picture : ℕ → ℕ → List ℕ → Picture
packed_picture w h l k = sample_at (packed_plane (offset_of k w h) (side_of k w) (side_of k h) l)

unfoldable pub packed_scene : ℕ → ℕ → List ℕ → Scene
packed_scene w h l = record { width = w; height = h; strength = 0; centre = packed_picture w h l }

-- the rule of a choice by a curve that is lent; a frame's share by it, and the share times the displaced sample
unfoldable pub curve_rule : Choice → List ℕ → Scene → Rule Picture
curve_rule c curve s = record { accepts = chosen_accepts c s; sample = chosen_sample c s; weight = λ f e. get_or curve e 0 }

unfoldable pub curve_share : Choice → List ℕ → Scene → Picture → ℕ → ℕ → ℕ → ℕ
curve_share c curve s f k x y = share_of (curve_rule c curve s) s f k x y

unfoldable pub curve_term : Choice → List ℕ → Scene → Picture → ℕ → ℕ → ℕ → ℕ
curve_term c curve s f k x y = curve_share c curve s f k x y * chosen_sample c s f k x y

-- a curve cut at a cap
unfoldable pub capped_curve : List ℕ → ℕ → List ℕ
capped_curve curve cap = tabulate 256 (λ e. min cap (get_or curve e 0))

-- of another frame, by the lent curve cut at its cap: its share, the share times the displaced sample, and its accepted blocks
unfoldable pub other_share : Choice → List ℕ → Scene → Other → ℕ → ℕ → ℕ → ℕ
other_share c curve s f k x y = curve_share c (capped_curve curve f.cap) s f.picture k x y

unfoldable pub other_term : Choice → List ℕ → Scene → Other → ℕ → ℕ → ℕ → ℕ
other_term c curve s f k x y = curve_term c (capped_curve curve f.cap) s f.picture k x y

unfoldable pub other_blocks : Choice → List ℕ → Scene → Other → ℕ
other_blocks c curve s f = accepted_in (curve_rule c (capped_curve curve f.cap) s) s f.picture

-- whether the block of plane k is filtered: in U and V, by half samples, where a component of the displacement is odd
unfoldable pub filtered_in : Bool → ℕ → Displacement → Bool
filtered_in half zero d = false
filtered_in half (suc k) d = half && ltb 0 (half_row d.dx + half_row d.dy)

-- the displacement of the samples around a block: the whole offsets, and two back
abbrev pub halo_by : Displacement → Displacement
halo_by d = record { dx = half_down d.dx -ℤ pos 2; dy = half_down d.dy -ℤ pos 2 }

-- 13 rows of 16 samples, the first at (x, y): sample i
abbrev pub halo_entry : Samples → ℕ → ℕ → ℕ → ℕ
halo_entry at x y i = at (pos (x + i % 16)) (pos (y + i / 16))

-- sample i of either pass over these: 13 rows of 8, and 8 rows of 8 from those
abbrev pub across_eight : ℕ → List ℕ → ℕ → ℕ
across_eight mx halo i = filtered_list sixtap mx (window halo (i / 8 * 16 + i % 8) 1)

abbrev pub down_eight : ℕ → List ℕ → ℕ → ℕ
down_eight my rows i = filtered_list sixtap my (window rows i 8)

-- the samples of a block of 8 by 8 that stands at (x, y) of a plane
unfoldable pub block_samples : List ℕ → ℕ → ℕ → Samples
block_samples block x y i j = get_or block ((above j - y) * 8 + (above i - x)) 0

-- whether samples pass against the centre's over a rectangle; and whether U and V of a block do at a displacement, where the choice asks them
unfoldable pub passes_by : Samples → Samples → Block → Bool
passes_by centre samples r = sad_accepted r (sad_of centre samples r)

unfoldable pub chroma_passes : Choice → Picture → Picture → Block → Displacement → Bool
chroma_passes c centre f b d =
    cond c.three_planes
    (passes_by (centre 1) (sample_in c.half_sample 1 d (f 1)) (block_in 1 b) && passes_by (centre 2) (sample_in c.half_sample 2 d (f 2)) (block_in 2 b))
    true

-- n frames of one size, each within the bytes
pub record Frames (bytes numbers : List ℕ) (n w h : ℕ) : Type 0 where
  pub whole : (g : ℕ) → g < n → Whole bytes (frame_at numbers g)
  pub size : (g : ℕ) → g < n → ((frame_at numbers g).width ≡ w) × ((frame_at numbers g).height ≡ h)

-- `now` holds f k at each place k below n; what follows is as in `old`
pub record Front (n : ℕ) (f : ℕ → ℕ) (old now : List ℕ) : Type 0 where
  pub long : length now ≡ length old
  pub within : (k : ℕ) → k < n → get_or now k 0 ≡ f k
  pub past : (k : ℕ) → n ≤ k → get_or now k 0 ≡ get_or old k 0

-- `now` holds f x y at each sample of the plane that starts at `at`, and is `old` elsewhere
pub record Stored (at columns rows : ℕ) (f : ℕ → ℕ → ℕ) (old now : List ℕ) : Type 0 where
  pub long : length now ≡ length old
  pub inside : (x y : ℕ) → x < columns → y < rows → get_or now (at + (y * columns + x)) 0 ≡ f x y
  pub before : (k : ℕ) → k < at → get_or now k 0 ≡ get_or old k 0
  pub after : (k : ℕ) → at + columns * rows ≤ k → get_or now k 0 ≡ get_or old k 0

-- a sum and a total weight whose quotient can be taken and is a byte
pub record Ready (sum total : ℕ) : Type 0 where
  pub some : 0 < total
  pub small : sum + total < 2 ^ 32
  pub byte : denoised sum total < 256

-- a list that holds f k x y at each sample (x, y) of each plane k
pub record Shows (w h : ℕ) (f : ℕ → ℕ → ℕ → ℕ) (l : List ℕ) : Type 0 where
  pub at : (k x y : ℕ) → k < 3 → x < side_of k w → y < side_of k h → get_or l (place_of w h k x y) 0 ≡ f k x y

-- each of the three lent slices has exactly n entries
pub record Exact (n : ℕ) (out sums weights : List ℕ) : Type 0 where
  pub of_out : length out ≡ n
  pub of_sums : length sums ≡ n
  pub of_weights : length weights ≡ n

-- what is known where no refusal applies, of w by h
pub record Legal (q : Request) (w h : ℕ) : Type 0 where
  pub inside : q.centre < frame_count q.numbers
  pub few : frame_count q.numbers ≤ 1024
  pub frames : Frames q.bytes q.numbers (frame_count q.numbers) w h
  pub wide : (0 < w) × (w ≤ 16383)
  pub high : (0 < h) × (h ≤ 16383)

-- what a blend leaves in slices of P entries
pub record Blended (rule : Scene → Rule Other) (q : Request) (w h count : ℕ) (held : Held) : Type 0 where
  pub accepted : count ≡ accepted_blocks (rule (scene_of q)) (window_of q)
  pub output : held.output ≡ packed w h (denoised_at (rule (scene_of q)) (window_of q))
  pub sums : held.sums ≡ packed w h (sum_at (rule (scene_of q)) (window_of q))
  pub weights : held.weights ≡ packed w h (total_at (rule (scene_of q)) (window_of q))

-- what an accepted call leaves
pub record Made (rule : Scene → Rule Other) (q : Request) (lent : Held) (count : ℕ) (held : Held) : Type 0 where
  pub accepted : count ≡ (built_of rule q).accepted
  pub output : held.output ≡ filled (scene_of q) (samples_of rule q) lent.output
  pub sums : held.sums ≡ cond (cropped q) lent.sums (filled (scene_of q) (sum_at (rule (scene_of q)) (window_of q)) lent.sums)
  pub weights : held.weights ≡ cond (cropped q) lent.weights (filled (scene_of q) (total_at (rule (scene_of q)) (window_of q)) lent.weights)
