-- Motion vectors: a row and a column, 16-bit signed, in quarter pixels; doubled, in eighths. Assumes nothing.
use Rattle.std.specs.Prelude.{cond, ℕ, ℤ, pos, ◌+ℤ◌, ◌-ℤ◌, ◌*ℤ◌}
use Rattle.std.specs.Int.Signed.{lt_z}
use Rattle.laws.specs.Signed.{above, minus, floor_div}
use Rattle.prediction.specs.declared.motion_vector.Mv.{Mv}

-- z brought into -32768..32767 by adding or taking away 65536, for z in -65536..65535
abbrev pub wrapped16 : ℤ → ℤ
wrapped16 z = cond (lt_z z (minus 32768)) (z +ℤ pos 65536) (cond (lt_z (pos 32767) z) (z -ℤ pos 65536) z)

-- twice a component, wrapping: 32767 gives -2
abbrev pub doubled : ℤ → ℤ
doubled v = wrapped16 (v *ℤ pos 2)

-- the stored vector: each component doubled
abbrev pub stored_mv : Mv → Mv
stored_mv v = record { row = doubled v.row; col = doubled v.col }

-- the whole offset: a component in eighths divided by 8, rounded down, also below zero
abbrev pub whole_of : ℤ → ℤ
whole_of v = floor_div v 8

-- the fraction is what remains, 0 to 7
abbrev pub fraction_of : ℤ → ℕ
fraction_of v = above (v -ℤ whole_of v *ℤ pos 8)
