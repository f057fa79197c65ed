-- the array holds the numbers of the first i frames
use Rattle.std.proofs.Common.{◌≡◌}
use Rattle.altref.specs.Internal.{filled}
use Rattle.altref.proofs.flatten.Given as goal

abbrev pub invariant-loop-i : goal.invariant-loop-i
invariant-loop-i l = l.numbers ≡ filled l.frames l.i
