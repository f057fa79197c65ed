-- What a filter set may have, so that laws speak of any set that has it. Assumes nothing.
use Rattle.std.specs.Prelude.{◌≡◌, ℕ, min, pos}
use Rattle.prediction.specs.Filter.{FilterRows, filtered}

-- row 0 is the identity: it leaves the sample, the third of the six, as it is
pub record Identity (set : FilterRows) : Type 0 where
  pub kept : (sample : ℕ → ℕ) → min (sample 2) 255 ≡ filtered (set 0) sample

-- every row has taps on the sample and the next one alone
pub record TwoTaps (set : FilterRows) : Type 0 where
  pub first : (s : ℕ) → set s 0 ≡ pos 0
  pub second : (s : ℕ) → set s 1 ≡ pos 0
  pub fifth : (s : ℕ) → set s 4 ≡ pos 0
  pub sixth : (s : ℕ) → set s 5 ≡ pos 0
