-- The sample by the sizes of a row's taps is the filtered sample; row 0 is the identity, and row 4 keeps equal samples. Assumes nothing.
use Rattle.std.proofs.Common.{List, ◌≡◌, refl, sym, ◌∙◌, ℕ, suc, ◌+◌, ◌-◌, ◌*◌, ◌/◌, ◌<◌, min, arith, get_or, ℤ, pos, neg_ℤ, ◌+ℤ◌, ◌*ℤ◌}
use Rattle.laws.proofs.Signed.{times, neg, floor, Less, less-pos, less-sum, above-less}
use Rattle.prediction.specs.Filter.{products, filtered, sixtap_rows, sixtap}
use Rattle.sixtap.specs.declared.taps.Taps.{Taps}
use Rattle.filters.specs.Sets.{Identity}
use Rattle.filters.specs.Internal.{filtered_list}
use Rattle.filters.proofs.Passes.{kept_is}
use Rattle.sixtap.specs.Internal.{Row, sample_of}

-- a product of a tap that is added, and of one that is taken away
tap-pos : (z : ℤ) (t x : ℕ) → z ≡ pos t → Less (z *ℤ pos x) (t * x) 0
tap-pos z t x e = rw e (record { eq = omega (arith, (times (pos t) x).up, (times (pos t) x).dn) })

tap-neg : (z : ℤ) (t x : ℕ) → z ≡ neg_ℤ (pos t) → Less (z *ℤ pos x) 0 (t * x)
tap-neg z t x e =
    let up = rw (neg (pos t)).up at (times (neg_ℤ (pos t)) x).up in
    let dn = rw (neg (pos t)).dn at (times (neg_ℤ (pos t)) x).dn in
    rw e (record { eq = omega (arith, up, dn) })

-- one product more, of a tap that is added and of one that is taken away
module _ (tap : ℕ → ℤ) (sample : ℕ → ℕ) where
  next-pos : (n t : ℕ) {p m : ℕ} → tap n ≡ pos t → Less (products tap sample n) p m → Less (products tap sample (suc n)) (p + t * sample n) m
  unfolding products
  next-pos n t {p} {m} e h =
      let g = less-sum h (tap-pos (tap n) t (sample n) e) in
      record { eq = omega (arith, g.eq) }

  next-neg : (n t : ℕ) {p m : ℕ} → tap n ≡ neg_ℤ (pos t) → Less (products tap sample n) p m → Less (products tap sample (suc n)) p (m + t * sample n)
  unfolding products
  next-neg n t {p} {m} e h =
      let g = less-sum h (tap-neg (tap n) t (sample n) e) in
      record { eq = omega (arith, g.eq) }

  none : Less (products tap sample 0) 0 0
  unfolding products
  none = record { eq = refl }

-- the six products of a row
module _ (s : ℕ) (t : Taps) (r : Row s t) (sample : ℕ → ℕ) where
  summed : Less (products (sixtap s) sample 6)
      (0 + t.a * sample 0 + t.c * sample 2 + t.d * sample 3 + t.f * sample 5)
      (0 + t.b * sample 1 + t.e * sample 4)
  summed =
      let x1 = next-pos (sixtap s) sample 0 t.a r.a (none (sixtap s) sample) in
      let x2 = next-neg (sixtap s) sample 1 t.b r.b x1 in
      let x3 = next-pos (sixtap s) sample 2 t.c r.c x2 in
      let x4 = next-pos (sixtap s) sample 3 t.d r.d x3 in
      let x5 = next-neg (sixtap s) sample 4 t.e r.e x4 in
      next-pos (sixtap s) sample 5 t.f r.f x5

  by_sizes : min ((t.a * sample 0 + t.c * sample 2 + t.d * sample 3 + t.f * sample 5 + 64 - (t.b * sample 1 + t.e * sample 4)) / 128) 255
      ≡ filtered (sixtap s) sample
  unfolding filtered
  by_sizes =
      let x = products (sixtap s) sample 6 in
      let g = less-sum summed (less-pos 64) in
      omega (arith, (floor (x +ℤ pos 64) 127).up, above-less g)

pub sample_law : (s : ℕ) (t : Taps) (w : List ℕ) → Row s t → sample_of t w ≡ filtered_list sixtap s w
unfolding sample_of filtered_list
sample_law s t w r = by_sizes s t r (λ k. get_or w k 0)

-- row 0 is the identity: it leaves the third sample as it is
whole : Taps
whole = record { a = 0; b = 0; c = 128; d = 0; e = 0; f = 0; more = omega arith; less = omega arith }

row_zero : (sample : ℕ → ℕ) → min (sample 2) 255 ≡ filtered (sixtap 0) sample
unfolding sixtap sixtap_rows whole
row_zero sample =
    let r : Row 0 whole = record { a = refl; b = refl; c = refl; d = refl; e = refl; f = refl } in
    let z : min (sample 2) 255 ≡ min ((0 * sample 0 + 128 * sample 2 + 0 * sample 3 + 0 * sample 5 + 64 - (0 * sample 1 + 0 * sample 4)) / 128) 255 = omega arith in
    z ∙ by_sizes 0 whole r sample

pub sixtap-whole : Identity sixtap
sixtap-whole = record { kept = row_zero }

-- so a pass with selector 0 copies the third of six samples
pub copied : (w : List ℕ) (y : ℕ) → y < 256 → y ≡ get_or w 2 0 → y ≡ filtered_list sixtap 0 w
copied w y h e =
    let m : y ≡ min (get_or w 2 0) 255 = omega arith in
    m ∙ kept_is sixtap sixtap-whole w

-- row 4 keeps equal samples: its taps add up to 128
halfway : Taps
halfway = record { a = 3; b = 16; c = 77; d = 77; e = 16; f = 3; more = omega arith; less = omega arith }

pub halfway-flat : (v : ℕ) → v < 256 → filtered (sixtap 4) (λ k. v) ≡ v
unfolding sixtap sixtap_rows halfway
halfway-flat v h =
    let r : Row 4 halfway = record { a = refl; b = refl; c = refl; d = refl; e = refl; f = refl } in
    let z : min ((3 * v + 77 * v + 77 * v + 3 * v + 64 - (16 * v + 16 * v)) / 128) 255 ≡ v = omega arith in
    sym (by_sizes 4 halfway r (λ k. v)) ∙ z
