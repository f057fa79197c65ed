-- A square of a plane, row by row; what an accepted fetch knows; and that the square of biased coordinates is that of the definition. Assumes nothing.
use Rattle.std.proofs.Common.{◌≡◌, ℕ, suc, ◌+◌, ◌-◌, ◌*◌, ◌/◌, ◌%◌, ◌≤◌, ◌<◌, min, ℤ, pos, ◌+ℤ◌, ◌-ℤ◌, false, List, ◌++◌, length, get_or, take, replicate, ltb, refl, sym, ap, ◌∙◌, SFits, w16, arith, length-append, length-drop, length-take-le, mod-eq_of_lt}
use Rattle.std.specs.Prelude.{Result, Ok, Err, ⊤}
use Rattle.std.proofs.Math.Nat.{div-eq_of_lt, mul-le-mul_right, mul-add-div_right, mul-add-mod_self_right}
use Rattle.std.proofs.Math.Dec.{eqb}
use Rattle.std.proofs.lemmas.Grind.{get_or_default_zero, common_steps}
use Rattle.std.proofs.lemmas.List.{same_lists}
use Rattle.std.proofs.lemmas.Slice.{take-put_mid}
use borrow.Rule.Slice.PartMut.{put_mid}
use Rattle.laws.specs.Internal.{Filling}
use Rattle.laws.specs.Outcome.{Outcome, refused, accepted, Line, first_of, after}
use Rattle.laws.specs.Signed.{above, below}
use Rattle.laws.specs.Tabulate.{tabulate}
use Rattle.laws.proofs.Outcome.{or_none}
use Rattle.laws.proofs.Signed.{range, floor, less_of, less-pos, less-sum, less_diff, above-less}
use Rattle.laws.proofs.Tabulate.{tabulate-same, get_d_tabulate, length-tabulate}
use Rattle.prediction.specs.declared.motion_vector.Mv.{Mv}
use Rattle.prediction.specs.Vector.{whole_of}
use Rattle.prediction.specs.Plane.{Plane, luma_plane, sample_at}
use Rattle.prediction.specs.Prediction.{square_of, offset_by}
use Rattle.prediction.specs.Refusals.{bad_side, block_of}
use Rattle.fetch.specs.declared.FetchRefusal.{FetchRefusal}
use Rattle.fetch.specs.declared.FetchRefusal.TheVariants.{BadSize, ShortPlane, BadOrigin}
use Rattle.fetch.specs.declared.Square.{Square}
use Rattle.fetch.specs.Refusals.{fetch_outcome, FetchIs, FillIs}
use Rattle.fetch.specs.Internal.{entry, Decides}
use Rattle.fetch.specs.Square.{samples_of, IsInside}

regroup : (a b c : ℕ) → a + b + c ≡ a + (b + c)
regroup a b c = omega arith

-- place k of row r
row_of : (n r k : ℕ) → k < n → (r * n + k) / n ≡ r
row_of n r k h = mul-add-div_right (omega arith) r k ∙ ap (λ (m : ℕ). r + m) (div-eq_of_lt h) ∙ omega arith

column_of : (n r k : ℕ) → k < n → (r * n + k) % n ≡ k
column_of n r k h = mul-add-mod_self_right r n k ∙ mod-eq_of_lt h

entry_at : (n bias : ℕ) (p : Plane) (x y r k : ℕ) → k < n
    → entry n bias p x y (r * n + k)
    ≡ get_or p.bytes (p.start + min (y + r - bias) (p.rows - 1) * p.stride + min (x + k - bias) (p.columns - 1)) 0
unfolding entry
entry_at n bias p x y r k h = rw (row_of n r k h, column_of n r k h)

-- row r is within n rows of n, and so is each place of it
pub rows_fit : (n r : ℕ) → r < n → r * n + n ≤ n * n
rows_fit n r h = let g : suc r ≤ n = h in omega (arith, mul-le-mul_right n g)

pub row_room : (n r k : ℕ) → r < n → k < n → r * n + k < n * n
row_room n r k h l = omega (arith, rows_fit n r h)

-- a turn that copies m entries at once
pub fill_part : {f : ℕ → ℕ} {n : ℕ} {xs : List ℕ} {i : ℕ} (m k : ℕ) (ys : List ℕ) → Filling f n xs i → i + m ≤ n → k ≡ m → length ys ≡ m
    → ((j : ℕ) → j < m → get_or ys j 0 ≡ f (i + j)) → Filling f n (put_mid i k xs ys) (i + m)
fill_part {f} {n} {xs} {i} m k ys p fits e long at =
    record {
      count = fits;
      long = simp (length-append, length-drop) (omega (arith, p.long, length-take-le i xs (omega arith)));
      done = take-put_mid i k xs ys (i + m) (omega arith) (omega arith) ∙ same_lists _ _ (simp (length-append) (omega (arith, length-take-le i xs (omega arith), length-tabulate (i + m) f))) each;
    }
  where
    each : (j d : ℕ) → j < length (take i xs ++ ys) → get_or (take i xs ++ ys) j d ≡ get_or (tabulate (i + m) f) j d
    each j d h =
        let t = length-take-le i xs (omega arith) in
        grind (arith, common_steps, p.done, length-append (take i xs) ys, get_d_tabulate i f j d, get_d_tabulate (i + m) f j d, at (j - i), get_or_default_zero ys (j - i) d)

module _ {N : ℕ} (s : Square N) (r : ℕ) (row : r < N) where
  -- a sample by its place in the plane
  pub edge-sample : (k from column : ℕ) → k < N → from ≡ min (s.y + r - s.bias) (s.height - 1) * s.stride → column ≡ min (s.x + k - s.bias) (s.width - 1)
      → get_or s.samples.now (from + column) 0 ≡ samples_of s (r * N + k)
  edge-sample k from column l e f =
      ap (λ (m : ℕ). get_or s.samples.now m 0) (omega arith) ∙ sym (entry_at N s.bias (luma_plane s.samples.now s.stride s.width s.height) s.x s.y r k l)

  -- inside, nothing is cut, and a row is a part of one of the plane
  module _ (i : IsInside s) where
    pub part-fits : (s.y - s.bias + r) * s.stride + (s.x - s.bias) + N ≤ length s.samples.now
    part-fits =
        let g : s.y - s.bias + r ≤ s.height - 1 = omega (arith, i.bottom) in
        omega (arith, mul-le-mul_right s.stride g, i.right, s.long)

    pub inside-sample : (k : ℕ) → k < N → get_or s.samples.now ((s.y - s.bias + r) * s.stride + (s.x - s.bias) + k) 0 ≡ samples_of s (r * N + k)
    inside-sample k l =
        let y : s.y - s.bias + r ≡ min (s.y + r - s.bias) (s.height - 1) = omega (arith, i.top, i.bottom) in
        let x : s.x - s.bias + k ≡ min (s.x + k - s.bias) (s.width - 1) = omega (arith, i.left, i.right) in
        ap (λ (m : ℕ). get_or s.samples.now m 0) (regroup ((s.y - s.bias + r) * s.stride) (s.x - s.bias) k)
        ∙ edge-sample k ((s.y - s.bias + r) * s.stride) (s.x - s.bias + k) l (ap (λ (m : ℕ). m * s.stride) y) x

pub sized : (n : ℕ) → bad_side n ≡ false → (0 < n) × (n ≤ 16383)
sized n e = grind (arith, or_none (eqb n 0) (ltb 16383 n) e)

-- what `moved` adds: the whole offset with a bias of 4096
abbrev pub biased_by : ℤ → ℕ
biased_by v = 4096 + above (whole_of v) - below (whole_of v)

-- a coordinate with the bias 4096 + d
biased : (d a r k : ℕ) (v : ℤ) → SFits w16 v → r ≡ a + (4096 + above (whole_of v) - below (whole_of v))
    → r + k - (4096 + d) ≡ above (pos 0 -ℤ pos d +ℤ pos k +ℤ (pos a +ℤ whole_of v))
biased d a r k v f e =
    let g = less-sum (less-sum (less_diff (less-pos 0) (less-pos d)) (less-pos k)) (less-sum (less-pos a) (less_of (whole_of v))) in
    let low : below (whole_of v) ≤ 4096 = omega (arith, (range f).least, (floor v 7).dn) in
    omega (arith, above-less g)

-- the square of biased coordinates is the square of the definition, d left and above
pub square_is : (n d : ℕ) (p : Plane) (x y column row : ℕ) (v : Mv) → SFits w16 v.row → SFits w16 v.col
    → column ≡ x + (4096 + above (whole_of v.col) - below (whole_of v.col))
    → row ≡ y + (4096 + above (whole_of v.row) - below (whole_of v.row))
    → tabulate (n * n) (entry n (4096 + d) p column row) ≡ square_of n (pos 0 -ℤ pos d) (pos 0 -ℤ pos d) (offset_by x y v (sample_at p))
unfolding entry square_of sample_at
square_is n d p x y column row v fr fc ec er =
    tabulate-same (n * n) _ _ (λ i l. rw (biased d x column (i % n) v.col fc ec, biased d y row (i / n) v.row fr er))

-- what a lent array holds after a fetch
unchanged : (o : Outcome (List ℕ)) (old : List ℕ) → old ≡ after o old old
unchanged (refused k v) old = refl
unchanged (accepted b) old = refl

module _ (lines : List Line) (b : List ℕ) where
  pub fill_refused : (e : FetchRefusal) → Decides lines (Err e) → (old : List ℕ) → FillIs (first_of lines b) (Err e) old old
  fill_refused e decides old = record { outcome = decides b; kept = unchanged (first_of lines b) old }

  pub fill_accepted : Decides lines (Ok tt) → (old r : List ℕ) → r ≡ b → FillIs (first_of lines b) (Ok tt) old r
  fill_accepted decides old r f =
      record { outcome = ap accepted f ∙ decides b; kept = ap (λ (o : Outcome (List ℕ)). after o old r) (decides b) }

-- an array of zeros that was lent is the block beside the answer
pub fetched : (a : Result ⊤ FetchRefusal) (held b : List ℕ) → fetch_outcome a held ≡ accepted b → held ≡ b
fetched (Ok u) held b e = cc
fetched (Err BadSize) held b e = cc
fetched (Err ShortPlane) held b e = cc
fetched (Err BadOrigin) held b e = cc

beside_of : (o : Outcome (List ℕ)) (a : Result ⊤ FetchRefusal) (n : ℕ) (held : List ℕ) → fetch_outcome a held ≡ o → held ≡ after o (replicate n 0) held → held ≡ block_of n o
beside_of (refused k v) a n held e h = h
beside_of (accepted b) a n held e h = fetched a held b e

pub by_value : (o : Outcome (List ℕ)) (a : Result ⊤ FetchRefusal) (n : ℕ) (held : List ℕ) → FillIs o a (replicate n 0) held → FetchIs o n a held
by_value o a n held f = record { outcome = f.outcome; beside = beside_of o a n held f.outcome f.kept }
