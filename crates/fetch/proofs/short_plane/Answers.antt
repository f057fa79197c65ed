-- `short_plane` meets its contract: a product is made where it cannot wrap; elsewhere a quotient tells whether it exceeds. Assumes nothing.
use Rattle.std.proofs.Common.{◌≡◌, ℕ, ◌+◌, ◌-◌, ◌*◌, ◌/◌, ◌<◌, ◌≤◌, arith, ltb, rules}
use Rattle.std.proofs.Math.Nat.{div-lt_iff_lt-mul, mul_comm}
use Rattle.fetch.proofs.short_plane.Goals as goal

-- (len - w) / m < stride tells whether m times stride and w exceed len
exceeds : (len stride w m : ℕ) → w ≤ len → 0 < m → ltb ((len - w) / m) stride ≡ ltb len (m * stride + w)
exceeds len stride w m h p = grind (arith, div-lt_iff_lt-mul, mul_comm)

-- what is left of len by w is below a product
left_over : (len w k : ℕ) → w ≤ len → ltb (len - w) k ≡ ltb len (k + w)
left_over len w k h = search rules

pub returns-then-stride-le4294967296 : goal.returns-then-stride-le4294967296
returns-then-stride-le4294967296 c =
    let s = c.args in
    left_over s.len s.width ((s.height - 1) * s.stride) (omega arith)

pub returns : goal.returns
returns c =
    let s = c.args in
    exceeds s.len s.stride s.width (s.height - 1) (omega arith) (omega arith)
