-- Where samples stand in the bytes and in packed lists. Assumes nothing.
use Rattle.std.proofs.Common.{◌≡◌, ap, ◌∙◌, List, ℕ, zero, suc, pred, ◌+◌, ◌-◌, ◌*◌, ◌≤◌, ◌<◌, min, mul-le-mul_right, arith, ℤ, pos, ◌+ℤ◌, length, get_or, w32, SFits}
use Rattle.laws.proofs.Signed.{fits, quot}
use Rattle.prediction.specs.Plane.{Plane, sample_at, nearest_in}
use Rattle.window.specs.Layout.{side_of, offset_of, packed_size}
use Rattle.denoiser.specs.declared.Block.{Block}
use Rattle.denoiser.specs.declared.Displacement.{Displacement}
use Rattle.denoiser.specs.declared.PlaneNumbers.{PlaneNumbers}
use Rattle.denoiser.specs.Grid.{block_in}
use Rattle.denoiser.specs.Search.{displaced_by, displacement_in}
use Rattle.denoiser.specs.Internal.{Fits, Short, Lies, plane_in, packed_plane}

pub sample-below : (bytes : List ℕ) (p : PlaneNumbers) → Fits bytes p → (x y : ℕ) → x < p.columns → y < p.rows
    → p.start + y * p.stride + x < length bytes
sample-below bytes p f x y hx hy =
    let h : y ≤ p.rows - 1 = omega arith in
    omega (arith, f.fits, mul-le-mul_right p.stride h)

-- a sample stands before the end of its packed plane, and so does a row of n from (x, y) on
pub below_end : (c r x y : ℕ) → x < c → y < r → y * c + x < c * r
below_end c r x y hx hy = let h : y + 1 ≤ r = omega arith in omega (arith, mul-le-mul_right c h)

pub row_below : (columns rows x y n : ℕ) → x + n ≤ columns → y < rows → y * columns + x + n ≤ columns * rows
row_below columns rows x y n hx hy =
    let h : y + 1 ≤ rows = omega arith in
    omega (arith, mul-le-mul_right columns h)

-- the sample at a place inside a plane
near : (n x : ℕ) → x < n → min x (n - 1) ≡ x
near n x h = omega arith

pub packed-at : (at columns rows : ℕ) (l : List ℕ) (x y : ℕ) → x < columns → y < rows
    → sample_at (packed_plane at columns rows l) (pos x) (pos y) ≡ get_or l (at + (y * columns + x)) 0
unfolding sample_at
packed-at at columns rows l x y hx hy = rw (near rows y hy, near columns x hx) (ap (λ (t : ℕ). get_or l t 0) (omega arith))

pub luma_at : (columns rows : ℕ) (l : List ℕ) (x y : ℕ) → x < columns → y < rows → sample_at (packed_plane 0 columns rows l) (pos x) (pos y) ≡ get_or l (y * columns + x) 0
luma_at columns rows l x y hx hy = packed-at 0 columns rows l x y hx hy ∙ ap (λ (t : ℕ). get_or l t 0) (omega arith)

-- the displaced sample, by its clamped coordinates
pub displaced_at_lem : (bytes : List ℕ) (p : PlaneNumbers) (d : Displacement) (x y : ℕ) {cx cy : ℕ} → cx ≡ nearest_in p.columns (pos x +ℤ d.dx)
    → cy ≡ nearest_in p.rows (pos y +ℤ d.dy) → get_or bytes (p.start + cy * p.stride + cx) 0 ≡ displaced_by d (sample_at (plane_in bytes p)) (pos x) (pos y)
unfolding sample_at
displaced_at_lem bytes p d x y {cx} {cy} ex ey =
    ap (λ (t : ℕ). get_or bytes (p.start + cy * p.stride + t) 0) ex
    ∙ ap (λ (t : ℕ). get_or bytes (p.start + t * p.stride + nearest_in p.columns (pos x +ℤ d.dx)) 0) ey

-- a sample is a byte
pub sample-byte : (p : Plane) → ((k : ℕ) → get_or p.bytes k 0 < 256) → (x y : ℤ) → sample_at p x y ≤ 255
unfolding sample_at
sample-byte p byte x y = let h = byte (p.start + nearest_in p.rows y * p.stride + nearest_in p.columns x) in omega arith

-- a short displacement's components are 32-bit numbers
pub short-fits : (d : Displacement) → Short d → SFits w32 d.dx × SFits w32 d.dy
short-fits d s = (fits (omega arith) (omega arith), fits (omega arith) (omega arith))

pub same-displacement : {dx dx' dy dy' : ℤ} → dx ≡ dx' → dy ≡ dy' → ◌≡◌ {A = Displacement} (record { dx = dx; dy = dy }) (record { dx = dx'; dy = dy' })
same-displacement {dx} {dx'} {dy} {dy'} ex ey = ap (λ (t : ℤ). record { dx = t; dy = dy }) ex ∙ ap (λ (t : ℤ). record { dx = dx'; dy = t }) ey

-- the planes by their numbers
pub not_luma : (k : ℕ) → (k ≡ 0 → ⊥) → k ≡ suc (pred k)
not_luma k g = omega arith

-- a block of Y lies in every plane, with half of it in U and V
pub block-fits : (k : ℕ) (b : Block) (w h : ℕ) → Lies b w h → Lies (block_in k b) (side_of k w) (side_of k h)
block-fits zero b w h l = l
block-fits (suc k) b w h l =
    record { slim = omega (arith, l.slim); low = omega (arith, l.low); wide = omega (arith, l.wide); high = omega (arith, l.high) }

pub some_side : (k w : ℕ) → 0 < w → 0 < side_of k w
some_side zero w h = h
some_side (suc k) w h = omega arith

pub short_in : (k : ℕ) (d : Displacement) → Short d → Short (displacement_in k d)
short_in zero d s = s
short_in (suc k) d s = omega (arith, quot d.dx 2, quot d.dy 2, s.right, s.left, s.down, s.up)

-- each plane ends within the packed picture
pub plane_end : (k w h : ℕ) → k < 3 → offset_of k w h + side_of k w * side_of k h ≤ packed_size w h
plane_end zero w h l = omega arith
plane_end (suc zero) w h l = omega arith
plane_end (suc (suc k)) w h l = omega arith
