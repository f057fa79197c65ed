-- Laws of the half sample: its vector is RFC 6386's, even components copy, it is a byte; and the block of 8 by 8 by two passes over lists. Assumes nothing.
use Rattle.std.proofs.Common.{◌≡◌, refl, sym, ap, ◌∙◌, Bool, true, false, ◌&&◌, List, ℕ, zero, suc, ◌+◌, ◌-◌, ◌*◌, ◌/◌, ◌%◌, ◌≤◌, ◌<◌, arith, ltb-false, ℤ, pos, nat_abs, ◌+ℤ◌, ◌-ℤ◌, ◌*ℤ◌, length, get_or, drop, get_or-drop}
use Rattle.std.proofs.Math.Decide.{ℕ_discrete}
use Rattle.laws.proofs.Signed.{same, self, sum, diff, times, quot, floor, one-zero, less_of, less-pos, less-sum, less_diff}
use Rattle.laws.specs.Tabulate.{tabulate}
use Rattle.laws.proofs.Tabulate.{length-tabulate, tabulate-same, get_d_tabulate}
use Rattle.prediction.specs.Vector.{whole_of, fraction_of}
use Rattle.prediction.specs.Plane.{Samples, moved_by}
use Rattle.prediction.specs.Filter.{filtered, sixtap}
use Rattle.prediction.specs.Prediction.{horizontal_at, vertical_at, predicted_at, square_of}
use Rattle.filters.specs.Internal.{window, filtered_list}
use Rattle.filters.proofs.Laws.{filtered-same, predicted_same, predicted_byte, square-at, whole-sample}
use Rattle.filters.proofs.Passes.{window-at}
use Rattle.sixtap.proofs.Sizes.{sixtap-whole, halfway-flat}
use Rattle.denoiser.specs.declared.Block.{Block}
use Rattle.denoiser.specs.declared.Displacement.{Displacement}
use Rattle.denoiser.specs.Grid.{block_in}
use Rattle.denoiser.specs.Search.{displaced_by, halved, displacement_in}
use Rattle.denoiser.specs.Window.{gate}
use Rattle.denoiser.specs.Chroma.{half_down, half_row, half_sample, sample_in}
use Rattle.denoiser.specs.Internal.{within, share_by, term_by, filtered_in, halo_by, halo_entry, across_eight, down_eight, block_samples}
use Rattle.denoiser.proofs.Gates.{gate-inside}
use Rattle.denoiser.proofs.Place.{share_goes, term_goes}

-- the luma displacement v in quarters is 4v, stored 8v; the chroma vector is 4v in eighths. Of that, by RFC 6386 section 18, the whole
-- offset and the fraction are the half rounded down and the row
pub half_is_rfc : (v : ℤ) → (half_down v ≡ whole_of (v *ℤ pos 4)) × (half_row v ≡ fraction_of (v *ℤ pos 4))
half_is_rfc v = (sym whole_is, sym fraction_is)
  where
    whole_is : whole_of (v *ℤ pos 4) ≡ half_down v
    whole_is = same _ _ (omega (arith, (floor (v *ℤ pos 4) 7).up, (floor (v *ℤ pos 4) 7).dn, (floor v 1).up, (floor v 1).dn, (times v 4).up, (times v 4).dn))

    fraction_is : fraction_of (v *ℤ pos 4) ≡ half_row v
    fraction_is =
        rw whole_is
        (omega (
          arith,
          one-zero v,
          (times v 4).up,
          (times v 4).dn,
          (times (half_down v) 8).up,
          (times (half_down v) 8).dn,
          (times (half_down v) 2).up,
          (times (half_down v) 2).dn,
          (diff (v *ℤ pos 4) (half_down v *ℤ pos 8)).up,
          (diff v (half_down v *ℤ pos 2)).up,
        ))

-- a component is even or odd by its size
pub row_is : (v : ℤ) → half_row v ≡ 4 * (nat_abs v % 2)
row_is v =
    omega (
      arith,
      one-zero v,
      (self v).abs,
      (floor v 1).up,
      (floor v 1).dn,
      (times (half_down v) 2).up,
      (times (half_down v) 2).dn,
      (diff v (half_down v *ℤ pos 2)).up,
    )

-- odd: twice the whole offset plus 1 is the component, and the row is 4
pub half_odd : (v : ℤ) → nat_abs v % 2 ≡ 1 → (half_down v *ℤ pos 2 +ℤ pos 1 ≡ v) × (half_row v ≡ 4)
half_odd v odd =
    let t = times (half_down v) 2 in
    let s = sum (half_down v *ℤ pos 2) (pos 1) in (
      same _ _ (omega (arith, one-zero v, (self v).abs, (floor v 1).up, (floor v 1).dn, t.up, t.dn, s.up, s.dn)),
      omega (arith, row_is v),
    )

-- even: the whole offset is the half, rounded either way
even_half : (v : ℤ) → nat_abs v % 2 ≡ 0 → half_down v ≡ halved v
even_half v even =
    same _ _ (omega (arith, one-zero v, (self v).abs, (floor v 1).up, (floor v 1).dn, (quot v 2).up, (quot v 2).dn))

-- both components even
pub record Even (d : Displacement) : Type 0 where
  pub across : nat_abs d.dx % 2 ≡ 0
  pub down : nat_abs d.dy % 2 ≡ 0

-- the half sample is then the frame's own at the halved displacement, which is the old call's displaced sample
pub record CopiedBy (d : Displacement) (at : Samples) : Type 0 where
  pub rows : (half_row d.dx ≡ 0) × (half_row d.dy ≡ 0)
  pub own : (x y : ℤ) → half_sample d at x y ≡ at (x +ℤ half_down d.dx) (y +ℤ half_down d.dy)
  pub old : (k : ℕ) (x y : ℤ) → half_sample d at x y ≡ displaced_by (displacement_in (suc k) d) at x y

pub half_even : (d : Displacement) (at : Samples) → Even d → ((x y : ℤ) → at x y < 256) → CopiedBy d at
unfolding half_sample
half_even d at even byte = record { rows = (zero-x, zero_y); own = own; old = λ k x y. own x y ∙ moved x y }
  where
    zero-x : half_row d.dx ≡ 0
    zero-x = omega (arith, row_is d.dx, even.across)

    zero_y : half_row d.dy ≡ 0
    zero_y = omega (arith, row_is d.dy, even.down)

    own : (x y : ℤ) → predicted_at sixtap (half_row d.dx) (half_row d.dy) (moved_by (half_down d.dx) (half_down d.dy) at) x y
        ≡ at (x +ℤ half_down d.dx) (y +ℤ half_down d.dy)
    own x y =
        ap (λ (n : ℕ). predicted_at sixtap n (half_row d.dy) (moved_by (half_down d.dx) (half_down d.dy) at) x y) zero-x
        ∙ ap (λ (n : ℕ). predicted_at sixtap 0 n (moved_by (half_down d.dx) (half_down d.dy) at) x y) zero_y
        ∙ whole-sample sixtap sixtap-whole (moved_by (half_down d.dx) (half_down d.dy) at) (λ a b. byte _ _) x y

    moved : (x y : ℤ) → at (x +ℤ half_down d.dx) (y +ℤ half_down d.dy) ≡ at (x +ℤ halved d.dx) (y +ℤ halved d.dy)
    moved x y =
        ap (λ (z : ℤ). at (x +ℤ z) (y +ℤ half_down d.dy)) (even_half d.dx even.across)
        ∙ ap (λ (z : ℤ). at (x +ℤ halved d.dx) (y +ℤ z)) (even_half d.dy even.down)

-- a half sample is a byte, whatever the samples are
pub half-byte : (d : Displacement) (at : Samples) (x y : ℤ) → half_sample d at x y < 256
unfolding half_sample
half-byte d at x y = predicted_byte sixtap (half_row d.dx) (half_row d.dy) (moved_by (half_down d.dx) (half_down d.dy) at) x y

-- rows 0 and 4 keep equal samples
flat-row : (v : ℤ) (c : ℕ) → c < 256 → filtered (sixtap (half_row v)) (λ k. c) ≡ c
flat-row v c small = by (ℕ_discrete (nat_abs v % 2) 0)
  where
    by : Dec (nat_abs v % 2 ≡ 0) → filtered (sixtap (half_row v)) (λ k. c) ≡ c
    by (yes e) =
        let z : half_row v ≡ 0 = omega (arith, row_is v) in
        ap (λ (s : ℕ). filtered (sixtap s) (λ k. c)) z ∙ sym (sixtap-whole.kept (λ k. c)) ∙ omega arith
    by (no e) =
        let f : half_row v ≡ 4 = omega (arith, row_is v) in
        ap (λ (s : ℕ). filtered (sixtap s) (λ k. c)) f ∙ halfway-flat c small

-- where the 6 by 6 samples around the place are one byte, the half sample is that byte
pub half-flat : (d : Displacement) (at : Samples) (x y : ℤ) (c : ℕ) → c < 256
    → ((i j : ℕ) → i < 6 → j < 6 → at (x +ℤ pos i -ℤ pos 2 +ℤ half_down d.dx) (y +ℤ pos j -ℤ pos 2 +ℤ half_down d.dy) ≡ c)
    → half_sample d at x y ≡ c
unfolding half_sample vertical_at horizontal_at
half-flat d at x y c small flat =
    predicted_same sixtap (half_row d.dx) (half_row d.dy) (moved_by (half_down d.dx) (half_down d.dy) at) (λ a b. c) x y flat
    ∙ filtered-same (sixtap (half_row d.dy)) _ (λ k. c) (λ k l. flat-row d.dx c small)
    ∙ flat-row d.dy c small

-- the samples of a plane are bytes, by either choice
pub sample_in-byte : (half : Bool) (k : ℕ) (d : Displacement) (at : Samples) → ((x y : ℤ) → at x y ≤ 255) → (x y : ℤ) → sample_in half k d at x y ≤ 255
sample_in-byte false k d at byte x y = byte _ _
sample_in-byte true zero d at byte x y = byte _ _
sample_in-byte true (suc k) d at byte x y = let h = half-byte d at x y in omega arith

-- where the block is filtered, and where it is copied
no_true : false ≡ true → ⊥
no_true e = let z : ◌≡◌ {A = ℕ} 0 1 = cc in omega arith

and_left : (a b : Bool) → (a && b) ≡ true → a ≡ true
and_left true b e = refl
and_left false b e = absurd (no_true e)

pub filtered_is : (half : Bool) (k : ℕ) (d : Displacement) (at : Samples) → filtered_in half k d ≡ true → sample_in half k d at ≡ half_sample d at
unfolding filtered_in
filtered_is half zero d at e = absurd (no_true e)
filtered_is half (suc k) d at e = rw (and_left half _ e)

pub copied_is : (half : Bool) (k : ℕ) (d : Displacement) (at : Samples) → filtered_in half k d ≡ false → ((x y : ℤ) → at x y ≤ 255)
    → (x y : ℤ) → sample_in half k d at x y ≡ displaced_by (displacement_in k d) at x y
unfolding filtered_in
copied_is false k d at e byte x y = refl
copied_is true zero d at e byte x y = refl
copied_is true (suc k) d at e byte x y =
    let none = ltb-false 0 (half_row d.dx + half_row d.dy) e in
    let even : Even d = record { across = omega (arith, row_is d.dx); down = omega (arith, row_is d.dy) } in
    (half_even d at even (λ a b. let h = byte a b in omega arith)).old k x y

-- Y is never filtered
pub luma_copied : (half : Bool) (d : Displacement) → filtered_in half 0 d ≡ false
unfolding filtered_in
luma_copied half d = refl

-- what is filtered is filtered by half samples; where U is copied, all is
pub filtered-half : (half : Bool) (k : ℕ) (d : Displacement) → filtered_in half k d ≡ true → half ≡ true
unfolding filtered_in
filtered-half half zero d e = absurd (no_true e)
filtered-half half (suc k) d e = and_left half _ e

pub all_copied : (half : Bool) (d : Displacement) → filtered_in half 1 d ≡ false → (k : ℕ) → filtered_in half k d ≡ false
unfolding filtered_in
all_copied half d e zero = refl
all_copied half d e (suc k) = e

-- U and V are filtered alike
pub chroma_alike : (half : Bool) (d : Displacement) → filtered_in half 1 d ≡ filtered_in half 2 d
unfolding filtered_in
chroma_alike half d = refl

-- a sample's place, seen from the first of these and from the pass
place_is : (x a k : ℕ) (w : ℤ) → pos (x + (a + k)) +ℤ (w -ℤ pos 2) ≡ pos x +ℤ pos a +ℤ pos k -ℤ pos 2 +ℤ w
place_is x a k w =
    let l = less-sum (less-pos (x + (a + k))) (less_diff (less_of w) (less-pos 2)) in
    let r = less-sum (less_diff (less-sum (less-sum (less-pos x) (less-pos a)) (less-pos k)) (less-pos 2)) (less_of w) in
    same _ _ (omega (arith, l.eq, r.eq))

-- the two passes over lists give the 8 by 8 half samples from (x, y) on
module _ (d : Displacement) (at : Samples) (x y : ℕ) where
  abbrev halo : List ℕ
  halo = tabulate 208 (halo_entry (displaced_by (halo_by d) at) x y)

  across_is : (n j i : ℕ) → n < 64 → j < 6 → i < 6 → get_or (window halo ((n + j * 8) / 8 * 16 + (n + j * 8) % 8) 1) i 0
      ≡ at (pos x +ℤ pos (n % 8) +ℤ pos i -ℤ pos 2 +ℤ half_down d.dx) (pos y +ℤ pos (n / 8) +ℤ pos j -ℤ pos 2 +ℤ half_down d.dy)
  across_is n j i hn hj hi =
      let place : ℕ = (n + j * 8) / 8 * 16 + (n + j * 8) % 8 + i * 1 in
      let column : place % 16 ≡ n % 8 + i = omega arith in
      let row : place / 16 ≡ n / 8 + j = omega arith in
      window-at halo ((n + j * 8) / 8 * 16 + (n + j * 8) % 8) 1 i hi
      ∙ get_d_tabulate 208 (halo_entry (displaced_by (halo_by d) at) x y) place 0 (omega arith)
      ∙ ap (λ (t : ℕ). displaced_by (halo_by d) at (pos (x + t)) (pos (y + place / 16))) column
      ∙ ap (λ (t : ℕ). displaced_by (halo_by d) at (pos (x + (n % 8 + i))) (pos (y + t))) row
      ∙ ap (λ (z : ℤ). at z (pos (y + (n / 8 + j)) +ℤ (half_down d.dy -ℤ pos 2))) (place_is x (n % 8) i (half_down d.dx))
      ∙ ap (at (pos x +ℤ pos (n % 8) +ℤ pos i -ℤ pos 2 +ℤ half_down d.dx)) (place_is y (n / 8) j (half_down d.dy))

  pub passes_are : tabulate 64 (down_eight (half_row d.dy) (tabulate 104 (across_eight (half_row d.dx) halo))) ≡ square_of 8 (pos x) (pos y) (half_sample d at)
  unfolding filtered_list half_sample vertical_at horizontal_at square_of
  passes_are =
      tabulate-same 64 _ _
      (λ n hn. filtered-same (sixtap (half_row d.dy)) _ _
      (λ j hj. window-at (tabulate 104 (across_eight (half_row d.dx) halo)) n 8 j hj
      ∙ get_d_tabulate 104 (across_eight (half_row d.dx) halo) (n + j * 8) 0 (omega arith)
      ∙ filtered-same (sixtap (half_row d.dx)) _ _ (λ i hi. across_is n j i hn hj hi)))

-- such a block holds 64 samples
pub square-long : (x y : ℤ) (at : Samples) → length (square_of 8 x y at) ≡ 64
unfolding square_of
square-long x y at = length-tabulate 64 _

-- it holds the half samples of the places that it covers
pub block_holds : (d : Displacement) (at : Samples) (x y : ℕ) (block : List ℕ) → block ≡ square_of 8 (pos x) (pos y) (half_sample d at)
    → (i j : ℕ) → x ≤ i → i < x + 8 → y ≤ j → j < y + 8 → block_samples block x y (pos i) (pos j) ≡ half_sample d at (pos i) (pos j)
unfolding block_samples
block_holds d at x y block e i j xi xe yj ye =
    let n : ℕ = (j - y) * 8 + (i - x) in
    let column : x + n % 8 ≡ i = omega arith in
    let row : y + n / 8 ≡ j = omega arith in
    ap (λ (l : List ℕ). get_or l n 0) e ∙ square-at 8 (pos x) (pos y) (half_sample d at) n (omega arith)
    ∙ ap (λ (t : ℕ). half_sample d at (pos t) (pos (y + n / 8))) column
    ∙ ap (λ (t : ℕ). half_sample d at (pos i) (pos t)) row

-- sample k of row r of the block stands at column x + k and row y + r of the plane
pub square-row : (block : List ℕ) (x y r k : ℕ) → get_or (drop (8 * r) block) k 0 ≡ block_samples block x y (pos (x + k)) (pos (y + r))
unfolding block_samples
square-row block x y r k =
    let e : 8 * r + k ≡ (y + r - y) * 8 + (x + k - x) = omega arith in
    get_or-drop (8 * r) block k 0 ∙ ap (λ (i : ℕ). get_or block i 0) e

-- what such a block adds, where it covers no more than 8 by 8, is what the half samples add
module _ (curve : List ℕ) (centre : Samples) (d : Displacement) (at : Samples) (b : Block) (slim : b.columns ≤ 8) (low : b.rows ≤ 8)
    (block : List ℕ) (e : block ≡ square_of 8 (pos b.x) (pos b.y) (half_sample d at)) (x y : ℕ) where
  pub half-share : gate (within b x y) (share_by curve centre (block_samples block b.x b.y) x y) ≡ gate (within b x y) (share_by curve centre (half_sample d at) x y)
  half-share =
      gate-inside b x y _ _
      (λ l r t u. share_goes curve centre _ _ x y (block_holds d at b.x b.y block e x y l (omega arith) t (omega arith)))

  pub half_term : gate (within b x y) (term_by curve centre (block_samples block b.x b.y) x y) ≡ gate (within b x y) (term_by curve centre (half_sample d at) x y)
  half_term =
      gate-inside b x y _ _
      (λ l r t u. term_goes curve centre _ _ x y (block_holds d at b.x b.y block e x y l (omega arith) t (omega arith)))

-- in U and V a block covers no more
pub chroma_block : (k : ℕ) (b : Block) → 0 < k → b.columns ≤ 16 → b.rows ≤ 16 → ((block_in k b).columns ≤ 8) × ((block_in k b).rows ≤ 8)
chroma_block zero b some slim low = absurd (omega arith)
chroma_block (suc k) b some slim low = (omega arith, omega arith)
