-- What the private functions promise each other. No public contract uses these definitions. Assumes nothing.
use Rattle.std.specs.Prelude.{List, ◌≡◌, ℕ, ◌+◌, ◌-◌, ◌*◌, ◌/◌, ◌%◌, ◌<◌, min, get_or, pos, neg_ℤ}
use Rattle.prediction.specs.Filter.{sixtap}
use Rattle.filters.specs.Internal.{window}
use Rattle.sixtap.specs.declared.taps.Taps.{Taps}

-- a row of taps by its sizes: the second and the fifth tap are not positive, the others not negative
pub record Row (s : ℕ) (t : Taps) : Type 0 where
  pub a : sixtap s 0 ≡ pos t.a
  pub b : sixtap s 1 ≡ neg_ℤ (pos t.b)
  pub c : sixtap s 2 ≡ pos t.c
  pub d : sixtap s 3 ≡ pos t.d
  pub e : sixtap s 4 ≡ neg_ℤ (pos t.e)
  pub f : sixtap s 5 ≡ pos t.f

-- the products that are added, and those that are taken away
abbrev pub added : Taps → List ℕ → ℕ
added t w = t.a * get_or w 0 0 + t.c * get_or w 2 0 + t.d * get_or w 3 0 + t.f * get_or w 5 0

abbrev pub taken : Taps → List ℕ → ℕ
taken t w = t.b * get_or w 1 0 + t.e * get_or w 4 0

-- one filtered sample by the sizes
unfoldable pub sample_of : Taps → List ℕ → ℕ
sample_of t w = min ((added t w + 64 - taken t w) / 128) 255

-- a closure's results, of which `post` speaks, are those of g
abbrev pub Gives : (List ℕ → ℕ → Type 0) → (List ℕ → ℕ) → Type 0
Gives post g = (support : List ℕ) (y : ℕ) → y < 256 → post support y → y ≡ g support

-- sample i of either pass, as g makes it of six
abbrev pub across : (List ℕ → ℕ) → List ℕ → ℕ → ℕ
across g halo i = g (window halo (i / 16 * 21 + i % 16) 1)

abbrev pub down : (List ℕ → ℕ) → List ℕ → ℕ → ℕ
down g rows i = g (window rows i 16)
