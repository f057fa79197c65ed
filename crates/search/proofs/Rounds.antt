-- Laws of the diamond's rounds, over any cost: a SAD at least is computed, and rounds beyond the first SAD change nothing. Assumes nothing.
use Rattle.std.proofs.Common.{◌≡◌, refl, Bool, true, false, cond, ℕ, zero, suc, ◌+◌, ◌≤◌, ◌<◌, le_refl, le_trans, arith, ltb, ℤ, pos, neg_ℤ}
use Rattle.prediction.specs.declared.motion_vector.Mv.{Mv}
use Rattle.search.specs.declared.DiamondResult.{DiamondResult}
use Rattle.search.specs.Search.{gridded, same_mv, stepped, tried, round_of, descend, start_at, diamond}
use Rattle.search.specs.Internal.{Good}
use Rattle.search.proofs.Descent.{round_is, moved, start_good}

module _ (cost : Mv → ℕ) where
  -- the count of SADs never falls
  tried_counts : (dr dc : ℤ) (b : DiamondResult) → b.sads ≤ (tried cost dr dc b).sads
  unfolding tried
  tried_counts dr dc b = go (same_mv n b.mv) (ltb (cost n) b.sad)
    where
      n : Mv
      n = stepped dr dc b.mv

      go : (s t : Bool) → b.sads
          ≤ (cond s b
          (cond t (record { mv = n; sad = cost n; sads = b.sads + 1; rounds = b.rounds })
          (record { mv = b.mv; sad = b.sad; sads = b.sads + 1; rounds = b.rounds }))).sads
      go true t = le_refl _
      go false true = omega arith
      go false false = omega arith

  round_counts : (b : DiamondResult) → b.sads ≤ (round_of cost b).sads
  unfolding round_of
  round_counts b =
      le_trans (tried_counts (neg_ℤ (pos 4)) (pos 0) b)
      (le_trans (tried_counts (pos 4) (pos 0) _) (le_trans (tried_counts (pos 0) (neg_ℤ (pos 4)) _) (tried_counts (pos 0) (pos 4) _)))

  descend_counts : (n : ℕ) (b : DiamondResult) → b.sads ≤ (descend cost n b).sads
  unfolding descend
  descend_counts zero b = le_refl _
  descend_counts (suc n) b = go (descend_counts n (round_of cost b)) (same_mv (round_of cost b).mv b.mv)
    where
      go : (round_of cost b).sads ≤ (descend cost n (round_of cost b)).sads → (t : Bool) → b.sads ≤ (cond t (round_of cost b) (descend cost n (round_of cost b))).sads
      go ih true = round_counts b
      go ih false = le_trans (round_counts b) ih

  -- the start's SAD is computed at any limit
  pub sads-least : (centre : Mv) (limit : ℕ) → 1 ≤ (diamond cost centre limit).sads
  unfolding diamond start_at
  sads-least centre limit = descend_counts limit (start_at cost centre)

  -- limits above the SAD that a descent starts from are all alike
  descents_alike : (n m : ℕ) (b : DiamondResult) → Good cost b → b.sad < n → b.sad < m → descend cost n b ≡ descend cost m b
  unfolding descend
  descents_alike zero m b g h l = absurd (omega arith)
  descents_alike (suc n) zero b g h l = absurd (omega arith)
  descents_alike (suc n) (suc m) b g h l = go (descents_alike n m (round_of cost b) (round_is cost b g).good) (same_mv (round_of cost b).mv b.mv) refl
    where
      go : ((round_of cost b).sad < n → (round_of cost b).sad < m → descend cost n (round_of cost b) ≡ descend cost m (round_of cost b)) → (t : Bool)
          → same_mv (round_of cost b).mv b.mv ≡ t
          → cond t (round_of cost b) (descend cost n (round_of cost b)) ≡ cond t (round_of cost b) (descend cost m (round_of cost b))
      go ih true e = refl
      go ih false e =
          let f = moved cost b g e in
          ih (omega arith) (omega arith)

  pub limits_alike : (centre : Mv) (n m : ℕ) → cost (gridded centre) < n → cost (gridded centre) < m → diamond cost centre n ≡ diamond cost centre m
  unfolding diamond start_at
  limits_alike centre n m h l = descents_alike n m (start_at cost centre) (start_good cost centre) h l
