-- Laws of the sharing of an allowance, over any search that keeps within its grant. Assumes nothing.
use Rattle.std.proofs.Common.{◌≡◌, refl, sym, ap, ◌∙◌, cond, ℕ, zero, suc, ◌+◌, ◌-◌, ◌*◌, ◌/◌, ◌≤◌, ◌<◌, le_trans, le_of_eq, div-one, div-le_self, div-mul-le_self, le-div_iff_mul-le, mul-div_cancel, arith, ltb}
use Rattle.laws.specs.Sums.{sum_below}
use Rattle.laws.proofs.Sums.{sum-least}
use Rattle.search.specs.Allowance.{rounds_for, remains, grant_at, made_at, spent}

-- a share is not below any number whose multiple is there
share-least : (k r n : ℕ) → 0 < n → k * n ≤ r → k ≤ r / n
share-least k r n h l = (le-div_iff_mul-le {k = n} {x = k} {y = r} h).1 l

-- what is left by one who takes at most his share gives the others as much
share_rises : (r n m : ℕ) → 0 < n → m ≤ r / suc n → r / suc n ≤ (r - m) / n
share_rises r n m h l = share-least (r / suc n) (r - m) n h (omega (arith, div-mul-le_self r (suc n)))

-- every macroblock makes at least 19 comparisons, and with the rounds of a grant of 19 or more at most the grant
pub record Keeps (made : ℕ → ℕ → ℕ) : Type 0 where
  pub least : (i limit : ℕ) → 19 ≤ made i limit
  pub within : (i g : ℕ) → 19 ≤ g → made i (rounds_for g) ≤ g

module _ (made : ℕ → ℕ → ℕ) (T M : ℕ) where
  -- the last macroblock is granted all that remains
  pub last_grant : (i : ℕ) → suc i ≡ M → grant_at made T M i ≡ remains made T M i
  last_grant i e =
      let one : M - i ≡ 1 = omega arith in
      ap (λ (n : ℕ). remains made T M i / n) one ∙ div-one (remains made T M i)

  -- the only one the whole allowance
  pub only_grant : M ≡ 1 → grant_at made T M 0 ≡ T
  unfolding remains
  only_grant e = last_grant 0 (sym e)

  module _ (keeps : Keeps made) (enough : 19 * M ≤ T) where
    rise : (i : ℕ) → suc i < M → 19 ≤ grant_at made T M i → grant_at made T M i ≤ grant_at made T M (suc i)
    unfolding remains
    rise i h g =
        let n : M - i ≡ suc (M - suc i) = omega arith in
        rw n (share_rises (remains made T M i) (M - suc i) _ (omega arith) (rw (sym n) (keeps.within i (grant_at made T M i) g)))

    -- every grant is at least 19
    pub grant_19 : (i : ℕ) → i < M → 19 ≤ grant_at made T M i
    unfolding remains
    grant_19 zero h = share-least 19 T (M - 0) (omega arith) (omega arith)
    grant_19 (suc i) h =
        let g = grant_19 i (omega arith) in
        le_trans g (rise i h g)

    -- no grant is below the one before
    pub grant_rises : (i : ℕ) → suc i < M → grant_at made T M i ≤ grant_at made T M (suc i)
    grant_rises i h = rise i h (grant_19 i (omega arith))

    -- every grant is at least T / M, rounded down
    pub grant_least : (i : ℕ) → i < M → T / M ≤ grant_at made T M i
    unfolding remains
    grant_least zero h =
        let n : M ≡ M - 0 = omega arith in
        le_of_eq (ap (λ (k : ℕ). T / k) n)
    grant_least (suc i) h = le_trans (grant_least i (omega arith)) (grant_rises i h)

    -- and so at least any number that T holds M times
    pub grant_holds : (k i : ℕ) → k * M ≤ T → i < M → k ≤ grant_at made T M i
    grant_holds k i l h = le_trans (share-least k T M (omega arith) l) (grant_least i h)

    -- no macroblock makes more comparisons than its grant, nor more than what remains
    pub made_granted : (i : ℕ) → i < M → made_at made T M i ≤ grant_at made T M i
    made_granted i h = keeps.within i (grant_at made T M i) (grant_19 i h)

    pub made-remains : (i : ℕ) → i < M → made_at made T M i ≤ remains made T M i
    made-remains i h = le_trans (made_granted i h) (div-le_self (remains made T M i) (M - i))

    -- what remains after macroblock i is what remained before it less what it made
    pub unspent_passed_on : (i : ℕ) → i < M → remains made T M (suc i) + made_at made T M i ≡ remains made T M i
    unfolding remains
    unspent_passed_on i h = omega (arith, made-remains i h)

    -- what remains and what was made are the allowance
    pub account : (i : ℕ) → i ≤ M → remains made T M i + sum_below (made_at made T M) i ≡ T
    unfolding remains sum_below
    account zero h = omega arith
    account (suc i) h = omega (arith, account i (omega arith), unspent_passed_on i h)

    -- the comparisons made: at most T, and at least 19 for each macroblock
    pub spent-most : spent made T M ≤ T
    spent-most = omega (arith, account M (omega arith))

    pub spent-least : 19 * M ≤ spent made T M
    spent-least = sum-least (made_at made T M) M 19 (λ i. keeps.least i _)

  -- with T = 19·M every grant is 19
  module _ (keeps : Keeps made) (bare : T ≡ 19 * M) where
    nineteen : (i : ℕ) → i < M → remains made T M i ≡ 19 * (M - i) → grant_at made T M i ≡ 19
    nineteen i h e = ap (λ (r : ℕ). r / (M - i)) e ∙ mul-div_cancel 19 (omega arith)

    bare_remains : (i : ℕ) → i ≤ M → remains made T M i ≡ 19 * (M - i)
    unfolding remains
    bare_remains zero h = omega arith
    bare_remains (suc i) h =
        let e = bare_remains i (omega arith) in
        let g = nineteen i h e in
        omega (arith, keeps.least i (rounds_for (grant_at made T M i)), keeps.within i (grant_at made T M i) (omega arith))

    pub starved_grant : (i : ℕ) → i < M → grant_at made T M i ≡ 19
    starved_grant i h = nineteen i h (bare_remains i (omega arith))

-- T = 100 for three macroblocks whose diamonds stop after one round, with 19 + 4 comparisons each
abbrev one_round : ℕ → ℕ → ℕ
one_round i limit = cond (ltb 0 limit) 23 19

pub worked_grants : (
    (grant_at one_round 100 3 0 ≡ 33)
    × (grant_at one_round 100 3 1 ≡ 38)
    × (grant_at one_round 100 3 2 ≡ 54)
    × (spent one_round 100 3 ≡ 69)
    × (rounds_for 33 ≡ 3)
    × (rounds_for 38 ≡ 4)
    × (rounds_for 54 ≡ 8)
    )
unfolding remains sum_below
worked_grants = (refl, refl, refl, refl, refl, refl, refl)
