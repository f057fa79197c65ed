-- Exactly one block of the grid covers a sample, in each plane.

use Rattle.std.proofs.Common.{◌≡◌, refl, sym, ap, ◌∙◌, Bool, true, false, ◌&&◌, ℕ, zero, suc, ◌+◌, ◌-◌, ◌*◌, ◌/◌, ◌≤◌, ◌<◌, min, arith, eqb, eq-eqb, ne_eqb, le-leb, lt-ltb, le-ltb}
use Rattle.std.proofs.Math.Decide.{dec_lt, dec_le, ℕ_discrete}
use Rattle.std.proofs.lemmas.Bool.{lt-leb}
use Rattle.denoiser.specs.Window.{gate}
use Rattle.denoiser.specs.Internal.{between, within, Lies}
use Rattle.denoiser.proofs.Gates.{gate-both, gate-eq, gate_on, gate_off, gate-zero}
use Rattle.window.specs.Layout.{side_of}
use Rattle.denoiser.specs.Grid.{grid_block, grid_side, block_in, unit_of}

-- a range of n numbers from a on, tested by its ends or by a test that agrees with them
between_is : (a n x q j : ℕ) → (q ≡ j → (a ≤ x) × (x < a + n)) → (a ≤ x → x < a + n → q ≡ j) → between a n x ≡ eqb q j
unfolding between
between_is a n x q j there back = by (ℕ_discrete q j) (dec_le a x) (dec_lt x (a + n))
  where
    by : Dec (q ≡ j) → Dec (a ≤ x) → Dec (x < a + n) → between a n x ≡ eqb q j
    by (yes e) d₁ d₂ = simp (le-leb a x (there e).0, lt-ltb x (a + n) (there e).1, eq-eqb q j e)
    by (no g) (yes l) (yes m) = absurd (g (back l m))
    by (no g) (yes l) (no m) = simp (le-leb a x l, le-ltb x (a + n) (omega arith), ne_eqb q j g)
    by (no g) (no l) d₂ = simp (lt-leb a x (omega arith), ne_eqb q j g)

-- in one direction: the block that is the j-th covers exactly the samples whose quotient by the unit is j
luma_side : (n j x : ℕ) → x < n → between (16 * j) (min 16 (n - 16 * j)) x ≡ eqb (x / 16) j
luma_side n j x h = between_is (16 * j) (min 16 (n - 16 * j)) x (x / 16) j (λ e. omega arith) (λ l m. omega arith)

chroma_side : (n j x : ℕ) → x < (n + 1) / 2 → between (16 * j / 2) ((min 16 (n - 16 * j) + 1) / 2) x ≡ eqb (x / 8) j
chroma_side n j x h = between_is (16 * j / 2) ((min 16 (n - 16 * j) + 1) / 2) x (x / 8) j (λ e. omega arith) (λ l m. omega arith)

-- the block never overhangs a plane
pub in_plane : (k n j : ℕ) → 16 * j < n → (side_of k (16 * j) + side_of k (min 16 (n - 16 * j)) ≤ side_of k n)
in_plane zero n j h = omega arith
in_plane (suc k) n j h = omega arith

pub covers : (k w h i j x y : ℕ) → x < side_of k w → y < side_of k h
    → within (block_in k (grid_block w h i j)) x y ≡ (eqb (y / unit_of k) i && eqb (x / unit_of k) j)
unfolding within
covers zero w h i j x y hx hy = simp (luma_side w j x hx, luma_side h i y hy)
covers (suc k) w h i j x y hx hy = simp (chroma_side w j x hx, chroma_side h i y hy)

-- a grid block's place
pub grid_lies : (w h i j : ℕ) → 16 * i < h → 16 * j < w → Lies (grid_block w h i j) w h
grid_lies w h i j hi hj = record { slim = omega arith; low = omega arith; wide = omega arith; high = omega arith }

-- what the block in row i and column j adds is what the block that covers (x, y) adds, where that is this block, else 0
module _ (k w h i j x y : ℕ) (acc : ℕ → ℕ → Bool) (f : ℕ → ℕ → ℕ) where
  at_cover : gate (eqb (y / unit_of k) i) (gate (eqb (x / unit_of k) j) (gate (acc i j) (f i j)))
      ≡ gate (eqb (y / unit_of k) i) (gate (eqb (x / unit_of k) j) (gate (acc (y / unit_of k) (x / unit_of k)) (f (y / unit_of k) (x / unit_of k))))
  at_cover =
      ap (gate (eqb (y / unit_of k) i)) (gate-eq (x / unit_of k) j (λ b. gate (acc i b) (f i b)))
      ∙ gate-eq (y / unit_of k) i (λ a. gate (eqb (x / unit_of k) j) (gate (acc a (x / unit_of k)) (f a (x / unit_of k))))

  pub covered : x < side_of k w → y < side_of k h → acc i j ≡ true → gate (within (block_in k (grid_block w h i j)) x y) (f i j)
      ≡ gate (eqb (y / unit_of k) i) (gate (eqb (x / unit_of k) j) (gate (acc (y / unit_of k) (x / unit_of k)) (f (y / unit_of k) (x / unit_of k))))
  covered hx hy t =
      ap (λ (b : Bool). gate b (f i j)) (covers k w h i j x y hx hy)
      ∙ gate-both (eqb (y / unit_of k) i) (eqb (x / unit_of k) j) (f i j)
      ∙ ap (λ (v : ℕ). gate (eqb (y / unit_of k) i) (gate (eqb (x / unit_of k) j) v)) (sym (gate_on (acc i j) (f i j) t))
      ∙ at_cover

  pub uncovered : acc i j ≡ false
      → gate (eqb (y / unit_of k) i) (gate (eqb (x / unit_of k) j) (gate (acc (y / unit_of k) (x / unit_of k)) (f (y / unit_of k) (x / unit_of k)))) ≡ 0
  uncovered t =
      sym at_cover
      ∙ ap (λ (v : ℕ). gate (eqb (y / unit_of k) i) (gate (eqb (x / unit_of k) j) v)) (ap (λ (b : Bool). gate b (f i j)) t ∙ gate_off (f i j))
      ∙ ap (gate (eqb (y / unit_of k) i)) (gate-zero (eqb (x / unit_of k) j)) ∙ gate-zero (eqb (y / unit_of k) i)

  -- where it is accepted and where it is not
  pub taken : (t : Bool) → x < side_of k w → y < side_of k h → acc i j ≡ t → gate t (gate (within (block_in k (grid_block w h i j)) x y) (f i j))
      ≡ gate (eqb (y / unit_of k) i) (gate (eqb (x / unit_of k) j) (gate (acc (y / unit_of k) (x / unit_of k)) (f (y / unit_of k) (x / unit_of k))))
  taken true hx hy e = gate_on true _ refl ∙ covered hx hy e
  taken false hx hy e = gate_off _ ∙ sym (uncovered e)

-- the grid covers the whole plane
pub within-grid : (k n x : ℕ) → x < side_of k n → x / unit_of k < grid_side n
within-grid zero n x h = omega arith
within-grid (suc k) n x h = omega arith
