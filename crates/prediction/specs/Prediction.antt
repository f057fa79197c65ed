-- RFC 6386 section 18: the luma prediction of a macroblock, over any filter set and any sample function. Assumes nothing.
use Rattle.std.specs.Prelude.{List, ℕ, ◌+◌, ◌*◌, ◌/◌, ◌%◌, get_or, ℤ, pos, ◌+ℤ◌, ◌-ℤ◌}
use Rattle.laws.specs.Signed.{above}
use Rattle.laws.specs.Tabulate.{tabulate}
use Rattle.prediction.specs.declared.motion_vector.Mv.{Mv}
use Rattle.prediction.specs.Vector.{whole_of, fraction_of}
use Rattle.prediction.specs.Plane.{Samples, moved_by}
use Rattle.prediction.specs.Filter.{FilterRows, filtered}

-- the horizontal pass at (x, y): the six samples from two left of it
unfoldable pub horizontal_at : FilterRows → ℕ → Samples → Samples
horizontal_at set mx at x y = filtered (set mx) (λ k. at (x +ℤ pos k -ℤ pos 2) y)

-- the vertical pass at (x, y): the six samples from two above it
unfoldable pub vertical_at : FilterRows → ℕ → Samples → Samples
vertical_at set my at x y = filtered (set my) (λ k. at x (y +ℤ pos k -ℤ pos 2))

-- the two passes: the vertical one reads what the horizontal one gives, clamped
abbrev pub predicted_at : FilterRows → ℕ → ℕ → Samples → Samples
predicted_at set mx my at = vertical_at set my (horizontal_at set mx at)

-- the n by n samples from (x, y) on, row by row
unfoldable pub square_of : ℕ → ℤ → ℤ → Samples → List ℕ
square_of n x y at = tabulate (n * n) (λ i. at (x +ℤ pos (i % n)) (y +ℤ pos (i / n)))

-- a macroblock: 16 by 16 samples
abbrev pub macroblock_of : Samples → List ℕ
macroblock_of at = square_of 16 (pos 0) (pos 0) at

-- the halo of a macroblock: 21 by 21 samples, from two samples left and above
abbrev pub halo_of : Samples → List ℕ
halo_of at = square_of 21 (pos 0 -ℤ pos 2) (pos 0 -ℤ pos 2) at

-- the samples that a halo holds, by the macroblock's coordinates
unfoldable pub halo_samples : List ℕ → Samples
halo_samples halo x y = get_or halo (above (y +ℤ pos 2) * 21 + above (x +ℤ pos 2)) 0

-- the macroblock filtered from a halo
unfoldable pub filtered_mb : FilterRows → ℕ → ℕ → List ℕ → List ℕ
filtered_mb set mx my halo = macroblock_of (predicted_at set mx my (halo_samples halo))

-- the samples seen from the pixel origin (x, y) moved by the whole offset of a vector in eighths
abbrev pub offset_by : ℕ → ℕ → Mv → Samples → Samples
offset_by x y v at = moved_by (pos x +ℤ whole_of v.col) (pos y +ℤ whole_of v.row) at

-- the prediction of the macroblock with the pixel origin (x, y) at a vector in eighths
unfoldable pub predicted_mb : FilterRows → Samples → ℕ → ℕ → Mv → List ℕ
predicted_mb set at x y v = macroblock_of (predicted_at set (fraction_of v.col) (fraction_of v.row) (offset_by x y v at))
