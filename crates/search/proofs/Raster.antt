-- Laws of a picture's macroblocks: how many there are, where each stands, and what its source block holds. Assumes nothing.
use Rattle.std.proofs.Common.{◌≡◌, sym, ap, ap₂, ◌∙◌, false, ℕ, suc, ◌+◌, ◌-◌, ◌*◌, ◌/◌, ◌%◌, ◌≤◌, ◌<◌, mul_comm, mul-le-mul_left, mul-le-mul_right, mod-eq_of_lt, mod-lt, div-add-mod', div-lt_iff_lt-mul, arith, le-ltb, ltb-false, ltb, pos, length, get_or}
use Rattle.std.proofs.Math.Nat.{mul-add-div_right, mul-add-mod_self_right, div-eq_of_lt}
use Rattle.std.proofs.Math.Decide.{dec_lt}
use Rattle.std.proofs.Math.ListN.{get_or-eq_default}
use Rattle.laws.proofs.Tabulate.{length-tabulate}
use Rattle.laws.proofs.Outcome.{or_none}
use Rattle.prediction.specs.Plane.{Plane, sample_at, moved_by}
use Rattle.prediction.specs.Prediction.{square_of, macroblock_of, offset_by}
use Rattle.prediction.specs.Refusals.{bad_side, bad_size, bad_origin}
use Rattle.prediction.proofs.Edges.{inside, right_of, below_of}
use Rattle.fetch.proofs.Squares.{sized}
use Rattle.filters.proofs.Laws.{square-at, sample-byte}
use Rattle.search.specs.Refusals.{bad_macroblock}
use Rattle.search.specs.Picture.{mb_columns, mb_rows, mb_count, source_block, zero_mv}

-- a legal side has 1 to 1024 macroblocks
side : (n : ℕ) → bad_side n ≡ false → (1 ≤ (n + 15) / 16) × ((n + 15) / 16 ≤ 1024)
side n e = let s = sized n e in omega (arith, s.0, s.1)

-- where a place stands among rows of n
row_of : (n r k : ℕ) → k < n → (r * n + k) / n ≡ r
row_of n r k h = mul-add-div_right (omega arith) r k ∙ ap (λ (m : ℕ). r + m) (div-eq_of_lt h) ∙ omega arith

column_of : (n r k : ℕ) → k < n → (r * n + k) % n ≡ k
column_of n r k h = mul-add-mod_self_right r n k ∙ mod-eq_of_lt h

module _ (p : Plane) (size : bad_size p ≡ false) where
  pub across : (1 ≤ mb_columns p) × (mb_columns p ≤ 1024)
  across = side p.columns (or_none (bad_side p.columns) (bad_side p.rows) size).0

  pub down : (1 ≤ mb_rows p) × (mb_rows p ≤ 1024)
  down = side p.rows (or_none (bad_side p.columns) (bad_side p.rows) size).1

  -- the count
  pub mb_count_lem : (1 ≤ mb_count p) × (mb_count p ≤ 1048576)
  mb_count_lem = (omega (arith, mul-le-mul_left (mb_columns p) down.0, across.0), omega (arith, mul-le-mul_left (mb_columns p) down.1, across.1))

  -- raster order: macroblock i stands in a column and a row of the picture, and i is the row times the columns, plus the column
  pub record Raster (i : ℕ) : Type 0 where
    pub column : i % mb_columns p < mb_columns p
    pub row : i / mb_columns p < mb_rows p
    pub index : i / mb_columns p * mb_columns p + i % mb_columns p ≡ i

  pub raster : (i : ℕ) → i < mb_count p → Raster i
  raster i h =
      let c : 0 < mb_columns p = across.0 in
      let l : i < mb_rows p * mb_columns p = rw (mul_comm (mb_rows p) (mb_columns p)) h in
      record { column = mod-lt i c; row = (div-lt_iff_lt-mul {k = mb_columns p} {x = i} {y = mb_rows p} c).1 l; index = div-add-mod' i (mb_columns p) }

  -- and each macroblock has one index
  pub record Index (c r i : ℕ) : Type 0 where
    pub within : i < mb_count p
    pub column : i % mb_columns p ≡ c
    pub row : i / mb_columns p ≡ r

  pub raster_index : (column row : ℕ) → column < mb_columns p → row < mb_rows p → Index column row (row * mb_columns p + column)
  raster_index column row h l =
      let g : suc row ≤ mb_rows p = l in
      record {
        within = omega (arith, mul-le-mul_right (mb_columns p) g, mul_comm (mb_rows p) (mb_columns p));
        column = column_of (mb_columns p) row column h;
        row = row_of (mb_columns p) row column h;
      }

  pub raster_one : (column row i : ℕ) → Index column row i → i ≡ row * mb_columns p + column
  raster_one column row i x =
      sym (raster i x.within).index ∙ ap (λ (n : ℕ). n * mb_columns p + i % mb_columns p) x.row ∙ ap (λ (n : ℕ). row * mb_columns p + n) x.column

  -- 10 never applies to a macroblock of a picture
  pub never_10 : (i : ℕ) → i < mb_count p → bad_macroblock (i % mb_columns p) (i / mb_columns p) ≡ false
  never_10 i h =
      let r = raster i h in
      simp (le-ltb 1023 (i % mb_columns p) (omega (arith, r.column, across.1)), le-ltb 1023 (i / mb_columns p) (omega (arith, r.row, down.1)))

  -- a sample lies in a macroblock where both coordinates are among its sixteen
  pub record LiesIn (x y i : ℕ) : Type 0 where
    pub within : i < mb_count p
    pub left : 16 * (i % mb_columns p) ≤ x
    pub right : x < 16 * (i % mb_columns p) + 16
    pub top : 16 * (i / mb_columns p) ≤ y
    pub bottom : y < 16 * (i / mb_columns p) + 16

  -- every sample lies in exactly one macroblock
  pub covers : (x y : ℕ) → x < p.columns → y < p.rows → LiesIn x y (y / 16 * mb_columns p + x / 16)
  covers x y h l =
      let c : x / 16 < mb_columns p = omega arith in
      let r : y / 16 < mb_rows p = omega arith in
      let n = raster_index (x / 16) (y / 16) c r in
      record {
        within = n.within;
        left = rw n.column (omega arith);
        right = rw n.column (omega arith);
        top = rw n.row (omega arith);
        bottom = rw n.row (omega arith);
      }

  pub covers_once : (x y i : ℕ) → LiesIn x y i → i ≡ y / 16 * mb_columns p + x / 16
  covers_once x y i h =
      raster_one (x / 16) (y / 16) i
      (record { within = h.within; column = omega (arith, h.left, h.right); row = omega (arith, h.top, h.bottom) })

-- the origin of a macroblock that 10 accepts is one that a fetch accepts
pub origin_fits : (column row : ℕ) → bad_macroblock column row ≡ false → bad_origin (16 * column) (16 * row) ≡ false
origin_fits column row e =
    let q = or_none (ltb 1023 column) (ltb 1023 row) e in
    let c = ltb-false 1023 column q.0 in
    let r = ltb-false 1023 row q.1 in
    simp (le-ltb 16368 (16 * column) (omega arith), le-ltb 16368 (16 * row) (omega arith))

module _ (p : Plane) (column row : ℕ) where
  -- the source block is what a fetch by the zero vector gives
  pub block_fetched : macroblock_of (offset_by (16 * column) (16 * row) zero_mv (sample_at p)) ≡ source_block p column row
  unfolding source_block
  block_fetched =
      let x : 16 * column + 0 ≡ 16 * column = omega arith in
      let y : 16 * row + 0 ≡ 16 * row = omega arith in
      ap₂ (λ (a b : ℕ). macroblock_of (moved_by (pos a) (pos b) (sample_at p))) x y

  pub block-long : length (source_block p column row) ≡ 256
  unfolding source_block square_of
  block-long = length-tabulate 256 _

  -- its sample in column k and row j
  pub block_at : (j k : ℕ) → j < 16 → k < 16 → get_or (source_block p column row) (j * 16 + k) 0 ≡ sample_at p (pos (16 * column + k)) (pos (16 * row + j))
  unfolding source_block
  block_at j k h l =
      let m : (j * 16 + k) % 16 ≡ k = omega arith in
      let q : (j * 16 + k) / 16 ≡ j = omega arith in
      let x : 0 + k + 16 * column ≡ 16 * column + k = omega arith in
      let y : 0 + j + 16 * row ≡ 16 * row + j = omega arith in
      square-at 16 (pos 0) (pos 0) (moved_by (pos (16 * column)) (pos (16 * row)) (sample_at p)) (j * 16 + k) (omega arith)
      ∙ rw (m, q) (ap (λ (n : ℕ). sample_at p (pos n) (pos (0 + j + 16 * row))) x ∙ ap (λ (n : ℕ). sample_at p (pos (16 * column + k)) (pos n)) y)

  -- a sample of the picture is the plane's; beyond the right or the bottom edge the last column or row is repeated
  pub record EdgeSource (j k : ℕ) : Type 0 where
    pub inside : 16 * column + k < p.columns → 16 * row + j < p.rows
        → get_or (source_block p column row) (j * 16 + k) 0 ≡ get_or p.bytes (p.start + (16 * row + j) * p.stride + (16 * column + k)) 0
    pub right : p.columns ≤ 16 * column + k → get_or (source_block p column row) (j * 16 + k) 0 ≡ sample_at p (pos (p.columns - 1)) (pos (16 * row + j))
    pub below : p.rows ≤ 16 * row + j → get_or (source_block p column row) (j * 16 + k) 0 ≡ sample_at p (pos (16 * column + k)) (pos (p.rows - 1))

  pub edge-source : (j k : ℕ) → j < 16 → k < 16 → EdgeSource j k
  edge-source j k h l =
      record {
        inside = λ a b. block_at j k h l ∙ inside p _ _ a b;
        right = λ a. block_at j k h l ∙ right_of p _ _ a;
        below = λ b. block_at j k h l ∙ below_of p _ _ b;
      }

  -- and each is a byte of the plane
  pub block-byte : ((k : ℕ) → get_or p.bytes k 0 < 256) → (i : ℕ) → get_or (source_block p column row) i 0 < 256
  unfolding source_block
  block-byte bytes i = go (dec_lt i 256)
    where
      go : Dec (i < 256) → get_or (source_block p column row) i 0 < 256
      go (yes l) = rw (square-at 16 (pos 0) (pos 0) (moved_by (pos (16 * column)) (pos (16 * row)) (sample_at p)) i l) (sample-byte p bytes _ _)
      go (no f) = rw (get_or-eq_default (source_block p column row) 0 {n = i} (omega (arith, block-long))) (omega arith)
