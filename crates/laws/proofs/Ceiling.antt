-- Laws of a sum over rows that is held against a ceiling: what its callers know, and how a loop finds it. Assumes nothing.
use mathlib.Core.Path.{◌≡◌, sym, ap, ◌∙◌}
use Prim.Native.Nat.{ℕ, zero, suc, ◌+◌, ◌-◌, ◌≤◌, ◌<◌, min}
use native.Mathlib.Omega.{arith}
use native.Mathlib.Decide.{dec_lt}
use borrow.Author.Tests.{le-leb, lt-leb, leb-true, leb-false}
use lib.Dec.{leb}
use Rattle.laws.specs.Sums.{sum_below}
use Rattle.laws.specs.First.{first_below}
use Rattle.laws.specs.Ceiling.{reached, rows_measured, sum_up_to}
use Rattle.laws.proofs.Sums.{sum_same, sum_split}
use Rattle.laws.proofs.First.{First, is_first, the_first, Passed, pass_more, found, not_found}

-- a part of a sum is no more than the sum
pub sum-part : (f : ℕ → ℕ) (m n : ℕ) → m ≤ n → sum_below f m ≤ sum_below f n
sum-part f m n h =
    let e : m + (n - m) ≡ n = omega arith in
    let p : sum_below f m ≤ sum_below f (m + (n - m)) = omega (arith, sum_split f m (n - m)) in
    rw e at p

module _ (row : ℕ → ℕ) (n ceiling : ℕ) where
  -- a value below the ceiling is the sum
  pub exact : sum_up_to row n ceiling < ceiling → sum_up_to row n ceiling ≡ sum_below row n
  unfolding sum_up_to
  exact h = omega arith

  -- where the value is the ceiling, the sum is no less
  pub not-less : ceiling ≤ sum_up_to row n ceiling → ceiling ≤ sum_below row n
  unfolding sum_up_to
  not-less h = omega arith

  -- a sum below the ceiling is the value
  pub whole : sum_below row n < ceiling → sum_up_to row n ceiling ≡ sum_below row n
  unfolding sum_up_to
  whole h = omega arith

  -- the row found is the first: before it the sum is below the ceiling, with it, if there is one, it is not
  at : First (reached row ceiling) n (first_below (reached row ceiling) n)
  at = is_first (reached row ceiling) n

  stops_there : first_below (reached row ceiling) n < n → ceiling ≤ sum_below row (first_below (reached row ceiling) n + 1)
  stops_there l = leb-true ceiling _ (at.holds l)

  -- a sum below the ceiling has all rows measured
  pub all_rows : sum_below row n < ceiling → rows_measured row n ceiling ≡ n
  unfolding rows_measured
  all_rows h = by (dec_lt (first_below (reached row ceiling) n) n)
    where
      by : Dec (first_below (reached row ceiling) n < n) → min (first_below (reached row ceiling) n + 1) n ≡ n
      by (yes l) = absurd (omega (arith, stops_there l, sum-part row (first_below (reached row ceiling) n + 1) n (omega arith)))
      by (no g) = omega arith

  -- of at least one row, at least one is measured
  pub some-row : 0 < n → 0 < rows_measured row n ceiling
  unfolding rows_measured
  some-row h = omega arith

  -- no more are measured than there are
  pub no_more : rows_measured row n ceiling ≤ n
  unfolding rows_measured
  no_more = omega arith

  -- with fewer rows than are measured, but at least one, the sum is below the ceiling; with those measured it is not, unless they are all
  pub last_row : ((k : ℕ) → 0 < k → k < rows_measured row n ceiling → sum_below row k < ceiling)
      × (rows_measured row n ceiling < n → ceiling ≤ sum_below row (rows_measured row n ceiling))
  unfolding rows_measured
  last_row = (before, with_it)
    where
      before : (k : ℕ) → 0 < k → k < min (first_below (reached row ceiling) n + 1) n → sum_below row k < ceiling
      before k z h =
          let e : k - 1 + 1 ≡ k = omega arith in
          rw e at (leb-false ceiling (sum_below row (k - 1 + 1)) (at.none (k - 1) (omega arith)))

      with_it : min (first_below (reached row ceiling) n + 1) n < n → ceiling ≤ sum_below row (min (first_below (reached row ceiling) n + 1) n)
      with_it h =
          let e : min (first_below (reached row ceiling) n + 1) n ≡ first_below (reached row ceiling) n + 1 = omega arith in
          rw e (stops_there (omega arith))

-- at the ceiling 0 the value is 0, with one row
pub at_zero : (row : ℕ → ℕ) (n : ℕ) → 0 < n → (sum_up_to row n 0 ≡ 0) × (rows_measured row n 0 ≡ 1)
unfolding sum_up_to rows_measured
at_zero row n h =
    let e = found (reached row 0) n 0 (λ j l. absurd (omega arith)) h (le-leb 0 (sum_below row (0 + 1)) (omega arith)) in
    (omega arith, rw (sym e) (omega arith))

-- a higher ceiling measures no fewer rows
pub rows_rise : (row : ℕ → ℕ) (n c d : ℕ) → c ≤ d → rows_measured row n c ≤ rows_measured row n d
unfolding rows_measured
rows_rise row n c d h = by (dec_lt (first_below (reached row d) n) (first_below (reached row c) n))
  where
    by : Dec (first_below (reached row d) n < first_below (reached row c) n)
        → min (first_below (reached row c) n + 1) n ≤ min (first_below (reached row d) n + 1) n
    by (yes l) =
        let a = at row n c in
        let low = leb-false c _ (a.none (first_below (reached row d) n) l) in
        absurd (omega (arith, low, stops_there row n d (omega (arith, a.most))))
    by (no g) = omega arith

-- rows that are the same give the same
module _ (f g : ℕ → ℕ) (n ceiling : ℕ) (same : (k : ℕ) → k < n → f k ≡ g k) where
  pub sum-rows-same : sum_up_to f n ceiling ≡ sum_up_to g n ceiling
  unfolding sum_up_to
  sum-rows-same = ap (λ (s : ℕ). min s ceiling) (sum_same f g n same)

  reached-same : (j : ℕ) → j < n → reached f ceiling j ≡ reached g ceiling j
  reached-same j h = ap (leb ceiling) (sum_same f g (j + 1) (λ k l. same k (omega arith)))

  pub rows_same : rows_measured f n ceiling ≡ rows_measured g n ceiling
  unfolding rows_measured
  rows_same = ap (λ (k : ℕ). min (k + 1) n) first-same
    where
      first-same : first_below (reached f ceiling) n ≡ first_below (reached g ceiling) n
      first-same =
          let a = at f n ceiling in
          the_first (reached g ceiling) n (first_below (reached f ceiling) n)
          (record {
            most = a.most;
            none = λ j h. sym (reached-same j (omega (arith, a.most))) ∙ a.none j h;
            holds = λ h. sym (reached-same _ h) ∙ a.holds h;
          })

-- a loop that measures: it stops with row r, or goes on
module _ (row : ℕ → ℕ) (n ceiling : ℕ) where
  pub stops : (r : ℕ) → Passed (reached row ceiling) r → r < n → ceiling ≤ sum_below row (r + 1)
      → (ceiling ≡ sum_up_to row n ceiling) × (r + 1 ≡ rows_measured row n ceiling)
  unfolding sum_up_to rows_measured
  stops r p h c =
      let e = found (reached row ceiling) n r p h (le-leb ceiling (sum_below row (r + 1)) c) in
      (omega (arith, sum-part row (r + 1) n (omega arith)), rw (sym e) (omega arith))

pub goes_on : (row : ℕ → ℕ) (ceiling r : ℕ) → Passed (reached row ceiling) r → sum_below row (r + 1) < ceiling → Passed (reached row ceiling) (r + 1)
goes_on row ceiling r p h = pass_more (reached row ceiling) r p (lt-leb ceiling (sum_below row (r + 1)) h)

-- before the ceiling is reached the sum is below it, unless no row was measured
below_ceiling : (row : ℕ → ℕ) (n ceiling : ℕ) → Passed (reached row ceiling) n → min (sum_below row n) ceiling ≡ sum_below row n
unfolding sum_below
below_ceiling row zero ceiling p = omega arith
below_ceiling row (suc k) ceiling p =
    let e : k + 1 ≡ suc k = omega arith in
    let l : sum_below row (suc k) < ceiling = rw e at (leb-false ceiling (sum_below row (k + 1)) (p k (omega arith))) in
    omega (arith, l)

-- or has measured all rows
pub ends : (row : ℕ → ℕ) (n ceiling : ℕ) → Passed (reached row ceiling) n → (sum_below row n ≡ sum_up_to row n ceiling) × (n ≡ rows_measured row n ceiling)
unfolding sum_up_to rows_measured
ends row n ceiling p =
    let e = not_found (reached row ceiling) n n p (omega arith) (omega arith) in
    (sym (below_ceiling row n ceiling p), rw (sym e) (omega arith))
