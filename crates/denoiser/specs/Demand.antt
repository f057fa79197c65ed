-- Demand 3, sample by sample: what the three lent slices hold after a call that blends. Over any rule. Assumes nothing.
use Rattle.std.specs.Prelude.{◌≡◌, List, ℕ, ◌+◌, ◌*◌, ◌/◌, ◌≤◌, ◌<◌, length, get_or}
use Rattle.laws.specs.Sums.{sum_over}
use Rattle.prediction.specs.Samples.{distance}
use Rattle.weights.specs.Weights.{weight_read}
use Rattle.weights.specs.Blend.{distance_bound}
use Rattle.window.specs.Layout.{side_of, place_of}
use Rattle.denoiser.specs.Grid.{unit_of}
use Rattle.denoiser.specs.Window.{Scene, Window, Rule, gate, centre_at, share_of}

-- what the three lent slices hold: the output, the sums and the total weights
pub record Held : Type 0 where
  pub output : List ℕ
  pub sums : List ℕ
  pub weights : List ℕ

-- the entry of a slice at column x and row y of plane k
abbrev pub entry_at : Scene → List ℕ → ℕ → ℕ → ℕ → ℕ
entry_at s l k x y = get_or l (place_of s.width s.height k x y) 0

-- at column x and row y of plane k
pub record SampleIs {F : Type 0} (rule : Rule F) (w : Window F) (held : Held) (k x y : ℕ) : Type 0 where
  -- the total weight is 16 plus the other frames' shares
  pub total : entry_at w.scene held.weights k x y ≡ 16 + sum_over (λ f. share_of rule w.scene f k x y) w.others
  -- the sum is 16 times the centre sample plus each share times its displaced sample
  pub sum : entry_at w.scene held.sums k x y
      ≡ 16 * centre_at w.scene k x y + sum_over (λ f. share_of rule w.scene f k x y * rule.sample f k x y) w.others
  -- the denoised sample is (sum + total/2) / total
  pub sample : entry_at w.scene held.output k x y
      ≡ (entry_at w.scene held.sums k x y + entry_at w.scene held.weights k x y / 2) / entry_at w.scene held.weights k x y
  -- another frame's share is the rule's weight of its displaced sample's difference where its block is accepted, else 0; nothing but
  -- that frame and the scene (size, strength and centre frame) enters it. The builder's weight is min(cap, w(e)), the lesser of the
  -- frame's cap and the curve's weight (`arnr_rule`). This unfolds `share_of`, by which total and sum are said
  pub share : (f : F) → share_of rule w.scene f k x y
      ≡ gate (rule.accepts f (y / unit_of k) (x / unit_of k)) (rule.weight f (distance (rule.sample f k x y) (centre_at w.scene k x y)))
  -- the denoised sample is no farther from the centre sample than the distance bound of n other frames at the strength
  pub bound : distance (entry_at w.scene held.output k x y) (centre_at w.scene k x y)
      ≤ distance_bound (weight_read w.scene.strength) (length w.others)

-- at every sample of every plane
unfoldable pub Demand3 : {F : Type 0} → Rule F → Window F → Held → Type 0
Demand3 rule w held = (k x y : ℕ) → k < 3 → x < side_of k w.scene.width → y < side_of k w.scene.height → SampleIs rule w held k x y
