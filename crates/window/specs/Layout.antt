-- The three planes of a picture, packed one after the other. They are numbered: 0 is Y, 1 is U, 2 is V. Assumes nothing.
use Rattle.std.specs.Prelude.{ℕ, zero, suc, ◌+◌, ◌*◌, ◌/◌}

-- half of a width or height, rounded up
abbrev pub half : ℕ → ℕ
half n = (n + 1) / 2

-- the columns or rows of a plane in a picture of n
abbrev pub side_of : ℕ → ℕ → ℕ
side_of zero n = n
side_of (suc k) n = half n

-- P: the samples of all three planes
abbrev pub packed_size : ℕ → ℕ → ℕ
packed_size w h = w * h + half w * half h + half w * half h

-- where a plane starts in the packed picture
abbrev pub offset_of : ℕ → ℕ → ℕ → ℕ
offset_of zero w h = 0
offset_of (suc zero) w h = w * h
offset_of (suc (suc k)) w h = w * h + half w * half h

-- the place of column x and row y of plane k
abbrev pub place_of : ℕ → ℕ → ℕ → ℕ → ℕ → ℕ
place_of w h k x y = offset_of k w h + (y * side_of k w + x)
