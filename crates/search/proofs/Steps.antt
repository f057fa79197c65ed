-- The diamond as code makes it: the ways out of one try, a round and the descent under way, over any cost. Assumes nothing.
use Rattle.std.proofs.Common.{◌≡◌, refl, ap, ◌∙◌, Bool, true, false, cond, ℕ, zero, suc, ◌+◌, ◌-◌, ◌*◌, ◌≤◌, ◌<◌, min, arith, lt-ltb, le-ltb, ltb, eqb, ℤ, pos}
use Rattle.laws.specs.Signed.{above, below, minus}
use Rattle.prediction.specs.declared.motion_vector.Mv.{Mv}
use Rattle.search.specs.declared.DiamondResult.{DiamondResult}
use Rattle.search.specs.Search.{gridded, same_mv, stepped, tried, counted, round_of, descend, start_at}
use Rattle.search.specs.Internal.{step_at, Good}
use Rattle.search.proofs.Descent.{tried_is, round_is, still, moving, start_good}

-- the neighbour n is skipped, is better, or is not
module _ (cost : Mv → ℕ) (dr dc : ℤ) (b : DiamondResult) (n : Mv) (is : n ≡ stepped dr dc b.mv) where
  pub tried_skipped : same_mv n b.mv ≡ true → b ≡ tried cost dr dc b
  unfolding tried
  tried_skipped e = simp (rw is at e)

  -- what is read of it is the lesser of its cost and the best SAD
  module _ (sad : ℕ) (e : same_mv n b.mv ≡ false) (m : sad ≡ min (cost n) b.sad) where
    pub tried_better : sad < b.sad → record { mv = n; sad = sad; sads = b.sads + 1; rounds = b.rounds } ≡ tried cost dr dc b
    unfolding tried
    tried_better h =
        let c : sad ≡ cost n = omega arith in
        let t : ltb (cost (stepped dr dc b.mv)) b.sad ≡ true = rw (c, is) at (lt-ltb sad b.sad h) in
        rw (c, is, rw is at e, t)

    pub tried_worse : b.sad ≤ sad → record { mv = b.mv; sad = b.sad; sads = b.sads + 1; rounds = b.rounds } ≡ tried cost dr dc b
    unfolding tried
    tried_worse h =
        let c : b.sad ≤ cost n = omega arith in
        let t : ltb (cost (stepped dr dc b.mv)) b.sad ≡ false = rw is at (le-ltb (cost n) b.sad c) in
        rw (rw is at e, t)

-- a neighbour of a round is at most 4 away along either axis
pub step_small : (first k : ℕ) → (above (step_at first k) ≤ 4) × (below (step_at first k) ≤ 4)
step_small first k = go (eqb k first) (eqb k (first + 1))
  where
    go : (s t : Bool) → (above (cond s (minus 4) (cond t (pos 4) (pos 0))) ≤ 4) × (below (cond s (minus 4) (cond t (pos 4) (pos 0))) ≤ 4)
    go true t = (omega arith, omega arith)
    go false true = (omega arith, omega arith)
    go false false = (omega arith, omega arith)

-- the best after the first k neighbours of a round
unfoldable pub tried_below : (Mv → ℕ) → DiamondResult → ℕ → DiamondResult
tried_below cost best zero = best
tried_below cost best (suc k) = tried cost (step_at 0 k) (step_at 2 k) (tried_below cost best k)

-- a round from b under way: the best after its first k neighbours
pub record Trying (cost : Mv → ℕ) (b : DiamondResult) (k : ℕ) (n : DiamondResult) : Type 0 where
  pub is : n ≡ tried_below cost b k
  pub good : Good cost n
  pub more : n.sads ≤ b.sads + k
  pub round : n.rounds ≡ b.rounds

module _ (cost : Mv → ℕ) (b : DiamondResult) where
  pub trying_none : Good cost b → Trying cost b 0 b
  unfolding tried_below
  trying_none g = record { is = refl; good = g; more = omega arith; round = refl }

  pub trying_more : (k : ℕ) (n r : DiamondResult) → Trying cost b k n → r ≡ tried cost (step_at 0 k) (step_at 2 k) n → Trying cost b (k + 1) r
  unfolding tried_below
  trying_more k n r t e =
      let d = tried_is cost (step_at 0 k) (step_at 2 k) n t.good in
      let next : k + 1 ≡ suc k = omega arith in
      record {
        is = rw next (e ∙ ap (tried cost (step_at 0 k) (step_at 2 k)) t.is);
        good = rw e d.good;
        more = rw e (omega (arith, d.more, t.more));
        round = rw e (d.round ∙ t.round);
      }

  pub trying_all : (n : DiamondResult) → Trying cost b 4 n → counted n ≡ round_of cost b
  unfolding tried_below round_of
  trying_all n t = ap counted t.is

-- the descent from s under way: what is left of it gives what the whole gives, and both counts are small
pub record Going (cost : Mv → ℕ) (limit : ℕ) (s b : DiamondResult) : Type 0 where
  pub good : Good cost b
  pub rest : descend cost (limit - b.rounds) b ≡ descend cost limit s
  pub fall : b.rounds + b.sad ≤ 65280
  pub more : b.sads ≤ 1 + 4 * b.rounds

pub start_at_lem : (cost : Mv → ℕ) (v n : Mv) (sad : ℕ) → n ≡ gridded v → sad ≡ cost n → record { mv = n; sad = sad; sads = 1; rounds = 0 } ≡ start_at cost v
unfolding start_at
start_at_lem cost v n sad e m = rw (m, e)

module _ (cost : Mv → ℕ) (limit : ℕ) where
  pub going_start : (centre : Mv) → cost (gridded centre) ≤ 65280 → Going cost limit (start_at cost centre) (start_at cost centre)
  unfolding start_at
  going_start centre h =
      let z : limit - 0 ≡ limit = omega arith in
      record { good = start_good cost centre; rest = rw z; fall = omega arith; more = omega arith }

  module _ (s b : DiamondResult) (g : Going cost limit s b) where
    left_over : b.rounds < limit → limit - b.rounds ≡ suc (limit - (b.rounds + 1))
    left_over h = omega arith

    pub going_more : b.rounds < limit → (round_of cost b).sad < b.sad → Going cost limit s (round_of cost b)
    unfolding descend
    going_more h l =
        let r = round_is cost b g.good in
        let m = moving cost b g.good l in
        record {
          good = r.good;
          rest = ap (λ (k : ℕ). descend cost (limit - k) (round_of cost b)) r.rounds ∙ (simp m at (rw (left_over h) at g.rest));
          fall = omega (arith, g.fall, r.rounds);
          more = omega (arith, g.more, r.more, r.rounds);
        }

    pub going_last : b.rounds < limit → b.sad ≤ (round_of cost b).sad → round_of cost b ≡ descend cost limit s
    unfolding descend
    going_last h l = simp (still cost b g.good l) at (rw (left_over h) at g.rest)

    pub going_end : limit ≤ b.rounds → b ≡ descend cost limit s
    unfolding descend
    going_end h =
        let z : limit - b.rounds ≡ 0 = omega arith in
        rw z at g.rest
