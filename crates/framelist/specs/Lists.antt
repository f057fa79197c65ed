-- The array of records, and the records of frames that are given as numbers. Assumes nothing.
use Rattle.std.specs.Prelude.{◌≡◌, List, ℕ, ◌<◌, ◌≤◌, length, get_or}
use Rattle.window.specs.declared.Frame.{Frame}
use Rattle.window.specs.Frames.{frame_at, zero_frame}

-- the records of the array: one more than the most that are not refused
abbrev pub array_records : ℕ
array_records = 1025

-- the array's first n records are the first n frames of the numbers; the others are zeros
pub record Listed (numbers : List ℕ) (n : ℕ) (fs : List Frame) : Type 0 where
  pub long : length fs ≡ array_records
  pub at : (g : ℕ) → g < n → get_or fs g zero_frame ≡ frame_at numbers g
  pub past : (g : ℕ) → n ≤ g → g < array_records → get_or fs g zero_frame ≡ zero_frame
