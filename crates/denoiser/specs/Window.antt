-- The window of frames and what the denoiser makes of it, sample by sample. Assumes nothing.
use Rattle.std.specs.Prelude.{Bool, true, false, List, ℕ, ◌*◌, ◌/◌, ltb, pos}
use Rattle.laws.specs.Sums.{sum_below, sum_over}
use Rattle.prediction.specs.Samples.{distance}
use Rattle.prediction.specs.Plane.{Samples}
use Rattle.weights.specs.Weights.{weight_read, capped_weight}
use Rattle.weights.specs.Blend.{total_weight, weighted_sum, denoised}
use Rattle.denoiser.specs.declared.Block.{Block}
use Rattle.denoiser.specs.declared.Displacement.{Displacement}
use Rattle.denoiser.specs.Grid.{grid_block, grid_side, unit_of}
use Rattle.denoiser.specs.Search.{sad_of, displaced_by, block_search, displacement_in}

-- a picture: the samples of each plane, edge samples repeated
abbrev pub Picture : Type 0
Picture = ℕ → Samples

-- another frame of a window: its picture, and its cap
pub record Other : Type 0 where
  pub picture : Picture
  pub cap : ℕ

-- v where the test holds, else 0
unfoldable pub gate : Bool → ℕ → ℕ
gate true v = v
gate false v = 0

-- what is one for all other frames: the size, the strength byte and the centre frame
pub record Scene : Type 0 where
  pub width : ℕ
  pub height : ℕ
  pub strength : ℕ
  pub centre : Picture

-- a window: that, and the other frames
pub record Window (F : Type 0) : Type 0 where
  pub scene : Scene
  pub others : List F

-- how another frame is taken: whether its block in row i and column j of the grid is accepted, its displaced sample at (x, y) of a plane, and its weight of a difference
pub record Rule (F : Type 0) : Type 0 where
  pub accepts : F → ℕ → ℕ → Bool
  pub sample : F → ℕ → ℕ → ℕ → ℕ
  pub weight : F → ℕ → ℕ

-- the centre sample at (x, y) of plane k
abbrev pub centre_at : Scene → ℕ → ℕ → ℕ → ℕ
centre_at s k x y = s.centre k (pos x) (pos y)

-- a frame's share at (x, y) of plane k: the weight of its displaced sample's difference where its block is accepted, else 0
unfoldable pub share_of : {F : Type 0} → Rule F → Scene → F → ℕ → ℕ → ℕ → ℕ
share_of rule s f k x y = gate (rule.accepts f (y / unit_of k) (x / unit_of k)) (rule.weight f (distance (rule.sample f k x y) (centre_at s k x y)))

-- the total weight, the sum and the denoised sample at (x, y) of plane k
unfoldable pub total_at : {F : Type 0} → Rule F → Window F → ℕ → ℕ → ℕ → ℕ
total_at rule w k x y = total_weight (λ f. share_of rule w.scene f k x y) w.others

unfoldable pub sum_at : {F : Type 0} → Rule F → Window F → ℕ → ℕ → ℕ → ℕ
sum_at rule w k x y = weighted_sum (centre_at w.scene k x y) (λ f. share_of rule w.scene f k x y) (λ f. rule.sample f k x y) w.others

unfoldable pub denoised_at : {F : Type 0} → Rule F → Window F → ℕ → ℕ → ℕ → ℕ
denoised_at rule w k x y = denoised (sum_at rule w k x y) (total_at rule w k x y)

-- the number of accepted blocks, of one other frame and over all other frames
unfoldable pub accepted_in : {F : Type 0} → Rule F → Scene → F → ℕ
accepted_in rule s f = sum_below (λ i. sum_below (λ j. gate (rule.accepts f i j) 1) (grid_side s.width)) (grid_side s.height)

unfoldable pub accepted_blocks : {F : Type 0} → Rule F → Window F → ℕ
accepted_blocks rule w = sum_over (accepted_in rule w.scene) w.others

-- the rule of the Rust: the block's displacement for a frame is the last best of the block search, its SAD that of this best
unfoldable pub cost_of : Scene → Picture → ℕ → ℕ → Displacement → ℕ
cost_of s f i j d = sad_of (s.centre 0) (displaced_by d (f 0)) (grid_block s.width s.height i j)

unfoldable pub displacement_of : Scene → Picture → ℕ → ℕ → Displacement
displacement_of s f i j = block_search (cost_of s f i j)

-- a block is excluded exactly when its SAD is at least 13 times bw times bh
abbrev pub sad_accepted : Block → ℕ → Bool
sad_accepted b sad = ltb sad (13 * (b.columns * b.rows))

unfoldable pub block_accepted : Scene → Picture → ℕ → ℕ → Bool
block_accepted s f i j = sad_accepted (grid_block s.width s.height i j) (cost_of s f i j (displacement_of s f i j))

-- the displaced sample: the frame's at (x, y) moved by the displacement, in U and V by the chroma one
unfoldable pub displaced_at : Scene → Picture → ℕ → ℕ → ℕ → ℕ
displaced_at s f k x y = displaced_by (displacement_in k (displacement_of s f (y / unit_of k) (x / unit_of k))) (f k) (pos x) (pos y)

-- a frame's weight is the lesser of its cap and the curve's weight; nothing else looks at the cap
unfoldable pub arnr_rule : Scene → Rule Other
arnr_rule s =
    record { accepts = λ f. block_accepted s f.picture; sample = λ f. displaced_at s f.picture; weight = λ f e. capped_weight f.cap s.strength e }

-- document 01's rule, which knows no caps: the one that is held against the Rust
unfoldable pub plain_rule : Scene → Rule Other
plain_rule s =
    record { accepts = λ f. block_accepted s f.picture; sample = λ f. displaced_at s f.picture; weight = λ f e. weight_read s.strength e }
