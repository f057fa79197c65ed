-- Half samples: RFC 6386's chroma displacement for a whole-pixel luma displacement; acceptance on three planes; and the rules of the builders by their choice. Assumes nothing.
use Rattle.std.specs.Prelude.{Bool, true, false, cond, ◌&&◌, ℕ, zero, suc, ◌*◌, ◌/◌, ℤ, pos, ◌-ℤ◌, ◌*ℤ◌}
use Rattle.laws.specs.Signed.{above, floor_div}
use Rattle.prediction.specs.Plane.{Samples, moved_by}
use Rattle.prediction.specs.Filter.{sixtap}
use Rattle.prediction.specs.Prediction.{predicted_at}
use Rattle.weights.specs.Weights.{capped_weight}
use Rattle.denoiser.specs.declared.Displacement.{Displacement}
use Rattle.denoiser.specs.declared.Choice.{Choice}
use Rattle.denoiser.specs.Grid.{grid_block, block_in, unit_of}
use Rattle.denoiser.specs.Search.{sad_of, displaced_by, displacement_in}
use Rattle.denoiser.specs.Window.{Picture, Other, Scene, Rule, displacement_of, sad_accepted, block_accepted}

-- of a component of the luma displacement: the whole offset is its half rounded down, also below zero
abbrev pub half_down : ℤ → ℤ
half_down v = floor_div v 2

-- the six-tap row is 0 where it is even, 4 where it is odd
abbrev pub half_row : ℤ → ℕ
half_row v = 4 * above (v -ℤ half_down v *ℤ pos 2)

-- the half sample: two passes by these rows over the samples moved by the whole offsets, across by the column's component, then down by
-- the row's. Rows 0 and 0 copy a byte
unfoldable pub half_sample : Displacement → Samples → Samples
half_sample d at = predicted_at sixtap (half_row d.dx) (half_row d.dy) (moved_by (half_down d.dx) (half_down d.dy) at)

-- the samples of plane k at a luma displacement: Y displaced; U and V by the displacement halved toward zero, or by half samples
abbrev pub sample_in : Bool → ℕ → Displacement → Samples → Samples
sample_in false k d at = displaced_by (displacement_in k d) at
sample_in true zero d at = displaced_by d at
sample_in true (suc k) d at = half_sample d at

-- the displaced sample of a frame at (x, y) of plane k, by the choice
unfoldable pub chosen_sample : Choice → Scene → Picture → ℕ → ℕ → ℕ → ℕ
chosen_sample c s f k x y = sample_in c.half_sample k (displacement_of s f (y / unit_of k) (x / unit_of k)) (f k) (pos x) (pos y)

-- of a frame's block, the SAD of plane k: the centre's samples against the frame's at the block's displacement, where the block covers the plane
unfoldable pub plane_sad : Bool → Scene → Picture → ℕ → ℕ → ℕ → ℕ
plane_sad half s f i j k =
    sad_of (s.centre k) (sample_in half k (displacement_of s f i j) (f k)) (block_in k (grid_block s.width s.height i j))

-- the plane passes where this SAD is below 13 times the block's area in that plane
unfoldable pub plane_passes : Bool → Scene → Picture → ℕ → ℕ → ℕ → Bool
plane_passes half s f i j k = sad_accepted (block_in k (grid_block s.width s.height i j)) (plane_sad half s f i j k)

-- on three planes a block is accepted exactly when Y, U and V each pass
unfoldable pub three_accepted : Bool → Scene → Picture → ℕ → ℕ → Bool
three_accepted half s f i j = plane_passes half s f i j 0 && (plane_passes half s f i j 1 && plane_passes half s f i j 2)

-- acceptance by the choice: by luma alone, or on three planes
unfoldable pub chosen_accepts : Choice → Scene → Picture → ℕ → ℕ → Bool
chosen_accepts c s f i j = cond c.three_planes (three_accepted c.half_sample s f i j) (block_accepted s f i j)

-- the rule of a choice; search and weights are those of `arnr_rule`, which is the rule by luma alone without half samples (`whole_choice`)
unfoldable pub rule_of : Choice → Scene → Rule Other
rule_of c s =
    record { accepts = λ f. chosen_accepts c s f.picture; sample = λ f. chosen_sample c s f.picture; weight = λ f e. capped_weight f.cap s.strength e }

abbrev pub whole_samples : Choice
whole_samples = record { half_sample = false; three_planes = false }

abbrev pub half_samples : Choice
half_samples = record { half_sample = true; three_planes = false }

abbrev pub three_planes : Bool → Choice
three_planes half = record { half_sample = half; three_planes = true }

-- the rule with half samples
abbrev pub half_rule : Scene → Rule Other
half_rule s = rule_of half_samples s

-- the rule on three planes, without half samples or with them
abbrev pub three_rule : Bool → Scene → Rule Other
three_rule half s = rule_of (three_planes half) s
