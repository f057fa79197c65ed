-- Laws of the prediction's definitions, over any filter set and any sample function. Assumes nothing.
use Rattle.std.proofs.Common.{◌≡◌, refl, sym, ap, ◌∙◌, List, ℕ, zero, suc, ◌+◌, ◌*◌, ◌/◌, ◌%◌, ◌<◌, min, arith, get_or, ℤ, pos, ◌+ℤ◌, ◌-ℤ◌, ◌*ℤ◌}
use Rattle.laws.specs.Signed.{above, floor_div}
use Rattle.laws.proofs.Signed.{same, sum, diff}
use Rattle.laws.proofs.Tabulate.{tabulate-same, get_d_tabulate}
use Rattle.prediction.specs.Samples.{clamped255}
use Rattle.prediction.specs.Plane.{Samples, Plane, sample_at}
use Rattle.prediction.specs.Filter.{FilterRows, products, filtered}
use Rattle.prediction.specs.Prediction.{horizontal_at, vertical_at, predicted_at, square_of, macroblock_of, halo_of, halo_samples, filtered_mb}
use Rattle.filters.specs.Sets.{Identity}

-- a filtered sample goes by its six products, and so by its six samples, and is a sample
module _ (tap : ℕ → ℤ) (f g : ℕ → ℕ) where
  products-by : (n : ℕ) → ((k : ℕ) → k < n → tap k *ℤ pos (f k) ≡ tap k *ℤ pos (g k)) → products tap f n ≡ products tap g n
  unfolding products
  products-by zero h = refl
  products-by (suc n) h = rw (products-by n (λ k l. h k (omega arith)), h n (omega arith))

  pub filtered-by : ((k : ℕ) → k < 6 → tap k *ℤ pos (f k) ≡ tap k *ℤ pos (g k)) → filtered tap f ≡ filtered tap g
  unfolding filtered
  filtered-by h = ap (λ (z : ℤ). clamped255 (floor_div (z +ℤ pos 64) 128)) (products-by 6 h)

  pub filtered-same : ((k : ℕ) → k < 6 → f k ≡ g k) → filtered tap f ≡ filtered tap g
  filtered-same h = filtered-by (λ k l. ap (λ (n : ℕ). tap k *ℤ pos n) (h k l))

pub filtered-byte : (tap : ℕ → ℤ) (f : ℕ → ℕ) → filtered tap f < 256
unfolding filtered
filtered-byte tap f = omega arith

-- the two passes at a place go by the 6 by 6 samples around it
module _ (set : FilterRows) (mx my : ℕ) (f g : Samples) (x y : ℤ) where
  pub predicted_same : ((i j : ℕ) → i < 6 → j < 6 → f (x +ℤ pos i -ℤ pos 2) (y +ℤ pos j -ℤ pos 2) ≡ g (x +ℤ pos i -ℤ pos 2) (y +ℤ pos j -ℤ pos 2))
      → predicted_at set mx my f x y ≡ predicted_at set mx my g x y
  unfolding vertical_at horizontal_at
  predicted_same h =
      filtered-same (set my) _ _
      (λ j l. filtered-same (set mx) (λ i. f (x +ℤ pos i -ℤ pos 2) (y +ℤ pos j -ℤ pos 2)) (λ i. g (x +ℤ pos i -ℤ pos 2) (y +ℤ pos j -ℤ pos 2)) (λ i m. h i j m l))

pub predicted_byte : (set : FilterRows) (mx my : ℕ) (f : Samples) (x y : ℤ) → predicted_at set mx my f x y < 256
unfolding vertical_at
predicted_byte set mx my f x y = filtered-byte (set my) _

-- a square: its sample at each place, and that it goes by its samples
pub square-at : (n : ℕ) (x y : ℤ) (at : Samples) (i : ℕ) → i < n * n → get_or (square_of n x y at) i 0 ≡ at (x +ℤ pos (i % n)) (y +ℤ pos (i / n))
unfolding square_of
square-at n x y at i h = get_d_tabulate (n * n) _ i 0 h

pub square-same : (n : ℕ) (x y u v : ℤ) (f g : Samples)
    → ((i : ℕ) → i < n * n → f (x +ℤ pos (i % n)) (y +ℤ pos (i / n)) ≡ g (u +ℤ pos (i % n)) (v +ℤ pos (i / n)))
    → square_of n x y f ≡ square_of n u v g
unfolding square_of
square-same n x y u v f g h = tabulate-same (n * n) _ _ h

-- column or row a + k of a halo, seen from the macroblock
two_back : (a k : ℕ) → above (pos 0 +ℤ pos a +ℤ pos k -ℤ pos 2 +ℤ pos 2) ≡ a + k
two_back a k =
    omega (
      arith,
      (diff (pos 0 +ℤ pos a +ℤ pos k) (pos 2)).up,
      (diff (pos 0 +ℤ pos a +ℤ pos k) (pos 2)).dn,
      (sum (pos 0 +ℤ pos a +ℤ pos k -ℤ pos 2) (pos 2)).up,
    )

from_two : (a k : ℕ) → pos 0 -ℤ pos 2 +ℤ pos (a + k) ≡ pos 0 +ℤ pos a +ℤ pos k -ℤ pos 2
from_two a k =
    same _ _
    (omega (
      arith,
      (sum (pos 0 -ℤ pos 2) (pos (a + k))).up,
      (sum (pos 0 -ℤ pos 2) (pos (a + k))).dn,
      (diff (pos 0 +ℤ pos a +ℤ pos k) (pos 2)).up,
      (diff (pos 0 +ℤ pos a +ℤ pos k) (pos 2)).dn,
    ))

-- what the filter reads of a halo
pub halo_reads : (halo : List ℕ) (a b i j : ℕ)
    → halo_samples halo (pos 0 +ℤ pos a +ℤ pos i -ℤ pos 2) (pos 0 +ℤ pos b +ℤ pos j -ℤ pos 2) ≡ get_or halo ((b + j) * 21 + (a + i)) 0
unfolding halo_samples
halo_reads halo a b i j = rw (two_back a i, two_back b j)

-- a fetched halo holds the samples that the filter reads
halo_holds : (at : Samples) (a b i j : ℕ) → a < 16 → b < 16 → i < 6 → j < 6
    → halo_samples (halo_of at) (pos 0 +ℤ pos a +ℤ pos i -ℤ pos 2) (pos 0 +ℤ pos b +ℤ pos j -ℤ pos 2)
    ≡ at (pos 0 +ℤ pos a +ℤ pos i -ℤ pos 2) (pos 0 +ℤ pos b +ℤ pos j -ℤ pos 2)
halo_holds at a b i j ha hb hi hj =
    let place : ℕ = (b + j) * 21 + (a + i) in
    let column : place % 21 ≡ a + i = omega arith in
    let row : place / 21 ≡ b + j = omega arith in
    halo_reads (halo_of at) a b i j ∙ square-at 21 (pos 0 -ℤ pos 2) (pos 0 -ℤ pos 2) at place (omega arith)
    ∙ ap (λ (n : ℕ). at (pos 0 -ℤ pos 2 +ℤ pos n) (pos 0 -ℤ pos 2 +ℤ pos (place / 21))) column
    ∙ ap (λ (n : ℕ). at (pos 0 -ℤ pos 2 +ℤ pos (a + i)) (pos 0 -ℤ pos 2 +ℤ pos n)) row
    ∙ ap (λ (z : ℤ). at z (pos 0 -ℤ pos 2 +ℤ pos (b + j))) (from_two a i)
    ∙ ap (λ (z : ℤ). at (pos 0 +ℤ pos a +ℤ pos i -ℤ pos 2) z) (from_two b j)

-- the macroblock filtered from a fetched halo is the prediction from the samples themselves
pub filtered-halo : (set : FilterRows) (mx my : ℕ) (at : Samples) → filtered_mb set mx my (halo_of at) ≡ macroblock_of (predicted_at set mx my at)
unfolding filtered_mb
filtered-halo set mx my at =
    square-same 16 (pos 0) (pos 0) (pos 0) (pos 0) _ _
    (λ n h. predicted_same set mx my (halo_samples (halo_of at)) at (pos 0 +ℤ pos (n % 16)) (pos 0 +ℤ pos (n / 16))
    (λ i j hi hj. halo_holds at (n % 16) (n / 16) i j (omega arith) (omega arith) hi hj))

-- where row 0 is the identity, row 0 twice is a copy, of samples below 256
here : (x : ℤ) → x +ℤ pos 2 -ℤ pos 2 ≡ x
here x = same _ _ (omega (arith, (sum x (pos 2)).up, (sum x (pos 2)).dn, (diff (x +ℤ pos 2) (pos 2)).up, (diff (x +ℤ pos 2) (pos 2)).dn))

module _ (set : FilterRows) (whole : Identity set) (at : Samples) (bytes : (x y : ℤ) → at x y < 256) where
  pub whole-sample : (x y : ℤ) → predicted_at set 0 0 at x y ≡ at x y
  unfolding vertical_at horizontal_at
  whole-sample x y =
      let inner : ℕ → ℕ = λ k. filtered (set 0) (λ i. at (x +ℤ pos i -ℤ pos 2) (y +ℤ pos k -ℤ pos 2)) in
      let p : min (inner 2) 255 ≡ filtered (set 0) inner = whole.kept inner in
      let q : min (at (x +ℤ pos 2 -ℤ pos 2) (y +ℤ pos 2 -ℤ pos 2)) 255 ≡ inner 2 = whole.kept (λ i. at (x +ℤ pos i -ℤ pos 2) (y +ℤ pos 2 -ℤ pos 2)) in
      let r : at (x +ℤ pos 2 -ℤ pos 2) (y +ℤ pos 2 -ℤ pos 2) ≡ at x y = rw (here x, here y) in
      let b : at x y < 256 = bytes x y in
      sym p ∙ omega arith

  pub whole_copy : macroblock_of (predicted_at set 0 0 at) ≡ macroblock_of at
  whole_copy = square-same 16 (pos 0) (pos 0) (pos 0) (pos 0) _ _ (λ i h. whole-sample (pos 0 +ℤ pos (i % 16)) (pos 0 +ℤ pos (i / 16)))

-- the samples of a plane of bytes are below 256
pub sample-byte : (p : Plane) → ((k : ℕ) → get_or p.bytes k 0 < 256) → (x y : ℤ) → sample_at p x y < 256
unfolding sample_at
sample-byte p h x y = h _
