-- Functions that measure up to a ceiling: what their loops keep, the ways out, and what their callers read. Assumes nothing.
use mathlib.Core.Path.{◌≡◌, refl, ap, ◌∙◌}
use Prim.Native.Nat.{ℕ, ◌+◌, ◌-◌, ◌*◌, ◌/◌, ◌%◌, ◌≤◌, ◌<◌, min}
use native.Mathlib.Omega.{arith}
use Rattle.laws.specs.Sums.{sum_below}
use Rattle.laws.specs.Ceiling.{reached, sum_up_to}
use Rattle.laws.proofs.Sums.{sum_none, sum_more}
use Rattle.laws.proofs.First.{Passed, pass_none}
use Rattle.laws.proofs.Ceiling.{rows_same, sum-rows-same, stops, goes_on, ends}
use Rattle.prediction.specs.declared.ceiling.Ceiled.{Ceiled}
use Rattle.prediction.specs.Ceiled.{CeiledIs}
use Rattle.prediction.specs.Internal.{parts}

-- r rows are measured, and the ceiling was reached with none of them; `left` is what is left of it
pub record Measuring (row : ℕ → ℕ) (ceiling r left : ℕ) : Type 0 where
  pub room : sum_below row r + left ≡ ceiling
  pub below : Passed (reached row ceiling) r

module _ (row : ℕ → ℕ) (ceiling : ℕ) where
  pub none_measured : Measuring row ceiling 0 ceiling
  none_measured = record { room = omega (arith, sum_none row); below = pass_none (reached row ceiling) }

  -- one row more: the ceiling is reached with it, or not
  module _ (r left v : ℕ) (m : Measuring row ceiling r left) (is : v ≡ row r) where
    with_it : sum_below row r + v ≡ sum_below row (r + 1)
    with_it = sum_more row r v (sum_below row r) refl is

    pub cut_off : (n rows : ℕ) → r < n → left ≤ v → rows ≡ r + 1 → CeiledIs row n ceiling (record { sad = ceiling; rows = rows })
    cut_off n rows h c e =
        let s = stops row n ceiling r m.below h (omega (arith, with_it, m.room)) in
        record { sad = s.0; rows = e ∙ s.1 }

    pub row_more : v < left → Measuring row ceiling (r + 1) (left - v)
    row_more h =
        record { room = omega (arith, with_it, m.room); below = goes_on row ceiling r m.below (omega (arith, with_it, m.room)) }

  -- all rows are measured
  pub all_measured : (n left : ℕ) → Measuring row ceiling n left → CeiledIs row n ceiling (record { sad = ceiling - left; rows = n })
  all_measured n left m =
      let s = ends row n ceiling m.below in
      let e : ceiling - left ≡ sum_below row n = omega (arith, m.room) in
      record { sad = e ∙ s.0; rows = s.1 }

-- value and rows, in one number; what is left is no more than the ceiling
pub both-parts : (row : ℕ → ℕ) (n ceiling left rows both : ℕ) → CeiledIs row n ceiling (record { sad = ceiling - left; rows = rows }) → rows < 32
    → left ≤ ceiling → both ≡ left * 32 + rows → CeiledIs row n ceiling (parts ceiling both) × (both / 32 ≤ ceiling)
both-parts row n ceiling left rows both i h m e =
    let s : both / 32 ≡ left = omega arith in
    let r : both % 32 ≡ rows = omega arith in
    (record { sad = ap (λ (k : ℕ). ceiling - k) s ∙ i.sad; rows = r ∙ i.rows }, omega arith)

pub both-cut : (row : ℕ → ℕ) (n ceiling rows both : ℕ) → CeiledIs row n ceiling (record { sad = ceiling; rows = rows }) → rows < 32 → both ≡ rows
    → CeiledIs row n ceiling (parts ceiling both) × (both / 32 ≤ ceiling)
both-cut row n ceiling rows both i h e =
    let s : ceiling - both / 32 ≡ ceiling = omega arith in
    let r : both % 32 ≡ rows = omega arith in
    (record { sad = s ∙ i.sad; rows = r ∙ i.rows }, omega arith)

-- what is read: the lesser of the sum and the ceiling
pub lesser : (row : ℕ → ℕ) (n ceiling : ℕ) (r : Ceiled) → CeiledIs row n ceiling r → r.sad ≡ min (sum_below row n) ceiling
unfolding sum_up_to
lesser row n ceiling r i = i.sad

-- rows that are the same
pub same_rows : (f g : ℕ → ℕ) (n ceiling : ℕ) (r : Ceiled) → ((k : ℕ) → k < n → f k ≡ g k) → CeiledIs f n ceiling r → CeiledIs g n ceiling r
same_rows f g n ceiling r same i =
    record { sad = i.sad ∙ sum-rows-same f g n ceiling same; rows = i.rows ∙ rows_same f g n ceiling same }
