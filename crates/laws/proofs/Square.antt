-- Laws of the places of a square. Assumes nothing.
use mathlib.Core.Bool.{cond}
use Prim.Native.Nat.{ℕ, ◌+◌, ◌≤◌, ◌<◌}
use native.Mathlib.Omega.{arith}
use native.Mathlib.Decide.{dec_lt}
use borrow.Author.Tests.{lt-ltb, le-ltb}
use lib.Dec.{ltb}
use Rattle.laws.specs.Square.{square_place}

-- a place is one of nine
pub place-most : (k : ℕ) → k < 8 → square_place k ≤ 8
place-most k h = by (dec_lt k 4)
  where
    by : Dec (k < 4) → cond (ltb k 4) k (k + 1) ≤ 8
    by (yes l) = simp (lt-ltb k 4 l) (omega arith)
    by (no g) = simp (le-ltb k 4 (omega arith)) (omega arith)
