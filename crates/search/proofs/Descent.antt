-- The laws of the diamond, over any cost: it stays on the grid, how its two counts are bounded, and when no neighbour is better. Assumes nothing.
use Rattle.std.proofs.Common.{◌≡◌, refl, sym, ap, ◌∙◌, Bool, true, false, cond, ◌&&◌, ℕ, zero, suc, ◌+◌, ◌-◌, ◌*◌, ◌≤◌, ◌<◌, le_refl, arith, ltb-true, ltb-false, ltb, ℤ, pos, neg_ℤ, ◌+ℤ◌}
use Rattle.std.proofs.Math.Decide.{dec_lt}
use Rattle.laws.specs.Signed.{eq_z}
use Rattle.laws.proofs.Signed.{eq_z-true, eq_z_self}
use Rattle.prediction.specs.declared.motion_vector.Mv.{Mv}
use Rattle.search.specs.declared.DiamondResult.{DiamondResult}
use Rattle.search.specs.Search.{gridded, same_mv, stepped, tried, round_of, descend, start_at, diamond}
use Rattle.search.specs.Internal.{Good}
use Rattle.search.proofs.Grid.{whole}

-- equal vectors, and the test for them
both : (a b : Bool) → (a && b) ≡ true → (a ≡ true) × (b ≡ true)
both true b e = (refl, e)
both false b e = (e, cc)

mv_same : {a b : Mv} → a.row ≡ b.row → a.col ≡ b.col → a ≡ b
mv_same {a} {b} p q = rw (p, q)

same_mv_lem : (a b : Mv) → same_mv a b ≡ true → a ≡ b
same_mv_lem a b e =
    let p = both (eq_z a.row b.row) (eq_z a.col b.col) e in
    mv_same (eq_z-true a.row b.row p.0) (eq_z-true a.col b.col p.1)

is_same : (a b : Mv) → a ≡ b → same_mv a b ≡ true
is_same a b e = rw e (simp (eq_z_self b.row, eq_z_self b.col))

-- what one neighbour does
pub record Tried (cost : Mv → ℕ) (dr dc : ℤ) (b r : DiamondResult) : Type 0 where
  pub good : Good cost r
  pub fewer : r.sad ≤ b.sad
  pub more : r.sads ≤ b.sads + 1
  pub round : r.rounds ≡ b.rounds
  pub still : b.sad ≤ r.sad → r.mv ≡ b.mv
  pub best : b.sad ≤ r.sad → cost b.mv ≤ cost (stepped dr dc b.mv)

pub tried_is : (cost : Mv → ℕ) (dr dc : ℤ) (b : DiamondResult) → Good cost b → Tried cost dr dc b (tried cost dr dc b)
unfolding tried
tried_is cost dr dc b g = go (same_mv n b.mv) (ltb (cost n) b.sad) refl refl
  where
    n : Mv
    n = stepped dr dc b.mv

    go : (s t : Bool) → same_mv n b.mv ≡ s → ltb (cost n) b.sad ≡ t
        → Tried cost dr dc b
        (cond s b
        (cond t (record { mv = n; sad = cost n; sads = b.sads + 1; rounds = b.rounds })
        (record { mv = b.mv; sad = b.sad; sads = b.sads + 1; rounds = b.rounds })))
    go true t e f =
        let q : cost n ≡ cost b.mv = ap cost (same_mv_lem n b.mv e) in
        record { good = g; fewer = le_refl _; more = omega arith; round = refl; still = λ h. refl; best = λ h. omega arith }
    go false true e f =
        let l = ltb-true (cost n) b.sad f in
        record {
          good = record { grid = whole (record { row = b.mv.row +ℤ dr; col = b.mv.col +ℤ dc }); measured = refl };
          fewer = omega arith;
          more = le_refl _;
          round = refl;
          still = λ h. absurd (omega arith);
          best = λ h. absurd (omega arith);
        }
    go false false e f =
        let l = ltb-false (cost n) b.sad f in
        record {
          good = record { grid = g.grid; measured = g.measured };
          fewer = le_refl _;
          more = le_refl _;
          round = refl;
          still = λ h. refl;
          best = λ h. omega (arith, g.measured);
        }

-- no neighbour has a smaller cost; one that is skipped has the same
pub record Settled (cost : Mv → ℕ) (v : Mv) : Type 0 where
  pub up : cost v ≤ cost (stepped (neg_ℤ (pos 4)) (pos 0) v)
  pub down : cost v ≤ cost (stepped (pos 4) (pos 0) v)
  pub left : cost v ≤ cost (stepped (pos 0) (neg_ℤ (pos 4)) v)
  pub right : cost v ≤ cost (stepped (pos 0) (pos 4) v)

-- what one round does
pub record Round (cost : Mv → ℕ) (b r : DiamondResult) : Type 0 where
  pub good : Good cost r
  pub fewer : r.sad ≤ b.sad
  pub more : r.sads ≤ b.sads + 4
  pub rounds : r.rounds ≡ b.rounds + 1
  pub still : b.sad ≤ r.sad → r.mv ≡ b.mv
  pub settled : b.sad ≤ r.sad → Settled cost r.mv

module _ (cost : Mv → ℕ) where
  pub round_is : (b : DiamondResult) → Good cost b → Round cost b (round_of cost b)
  unfolding round_of
  round_is b g =
      let up = tried_is cost (neg_ℤ (pos 4)) (pos 0) b g in
      let dn = tried_is cost (pos 4) (pos 0) _ up.good in
      let lf = tried_is cost (pos 0) (neg_ℤ (pos 4)) _ dn.good in
      let rt = tried_is cost (pos 0) (pos 4) _ lf.good in
      let u = up.fewer in
      let d = dn.fewer in
      let l = lf.fewer in
      let r = rt.fewer in
      record {
        good = record { grid = rt.good.grid; measured = rt.good.measured };
        fewer = omega arith;
        more = omega (arith, up.more, dn.more, lf.more, rt.more);
        rounds = omega (arith, up.round, dn.round, lf.round, rt.round);
        still = λ h. rt.still (omega arith) ∙ lf.still (omega arith) ∙ dn.still (omega arith) ∙ up.still (omega arith);
        settled =
            λ h.
            let eu = up.still (omega arith) in
            let ed = dn.still (omega arith) ∙ eu in
            let el = lf.still (omega arith) ∙ ed in
            let er = rt.still (omega arith) ∙ el in
            rw er
            (record {
              up = up.best (omega arith);
              down = rw eu at (dn.best (omega arith));
              left = rw ed at (lf.best (omega arith));
              right = rw el at (rt.best (omega arith));
            });
      }

  -- the SAD tells whether a round moved: no smaller SAD, so the same vector; and the same vector, so the same SAD
  module _ (b : DiamondResult) (g : Good cost b) where
    pub still : b.sad ≤ (round_of cost b).sad → same_mv (round_of cost b).mv b.mv ≡ true
    still h = is_same _ b.mv ((round_is b g).still h)

    unmoved : same_mv (round_of cost b).mv b.mv ≡ true → (round_of cost b).sad ≡ b.sad
    unmoved e = (round_is b g).good.measured ∙ ap cost (same_mv_lem _ b.mv e) ∙ sym g.measured

    pub moving : (round_of cost b).sad < b.sad → same_mv (round_of cost b).mv b.mv ≡ false
    moving h = go (same_mv (round_of cost b).mv b.mv) refl
      where
        go : (t : Bool) → same_mv (round_of cost b).mv b.mv ≡ t → t ≡ false
        go true e = absurd (omega (arith, unmoved e))
        go false e = refl

    pub moved : same_mv (round_of cost b).mv b.mv ≡ false → (round_of cost b).sad < b.sad
    moved e = go (dec_lt (round_of cost b).sad b.sad)
      where
        differ : true ≡ false → ⊥
        differ q = let z : ◌≡◌ {A = ℕ} 0 1 = cc in omega arith

        go : Dec ((round_of cost b).sad < b.sad) → (round_of cost b).sad < b.sad
        go (yes l) = l
        go (no f) = absurd (differ (sym (still (omega arith)) ∙ e))

  -- what the descent does, in at most n rounds
  record Down (n : ℕ) (b r : DiamondResult) : Type 0 where
    good : Good cost r
    fewer : r.sad ≤ b.sad
    fall : r.rounds + r.sad ≤ b.rounds + b.sad + 1
    most : r.rounds ≤ b.rounds + n
    more : r.sads + 4 * b.rounds ≤ b.sads + 4 * r.rounds
    settled : b.sad < n → Settled cost r.mv
    ended : r.rounds < b.rounds + n → Settled cost r.mv

  down : (n : ℕ) (b : DiamondResult) → Good cost b → Down n b (descend cost n b)
  unfolding descend
  down zero b g =
      record { good = g; fewer = le_refl _; fall = omega arith; most = omega arith; more = le_refl _; settled = λ h. absurd (omega arith); ended = λ h. absurd (omega arith) }
  down (suc n) b g = go (λ k. down n (round_of cost b) k) (round_is b g) (same_mv (round_of cost b).mv b.mv) refl
    where
      go : (Good cost (round_of cost b) → Down n (round_of cost b) (descend cost n (round_of cost b))) → Round cost b (round_of cost b)
          → (t : Bool) → same_mv (round_of cost b).mv b.mv ≡ t → Down (suc n) b (cond t (round_of cost b) (descend cost n (round_of cost b)))
      go ih r true e =
          let same : (round_of cost b).sad ≡ b.sad = unmoved b g e in
          record {
            good = r.good;
            fewer = r.fewer;
            fall = omega (arith, r.rounds);
            most = omega (arith, r.rounds);
            more = omega (arith, r.more, r.rounds);
            settled = λ h. r.settled (omega arith);
            ended = λ h. r.settled (omega arith);
          }
      go ih r false e =
          let l : (round_of cost b).sad < b.sad = moved b g e in
          let d = ih r.good in
          record {
            good = d.good;
            fewer = omega (arith, d.fewer);
            fall = omega (arith, d.fall, r.rounds);
            most = omega (arith, d.most, r.rounds);
            more = omega (arith, d.more, r.more, r.rounds);
            settled = λ h. d.settled (omega arith);
            ended = λ h. d.ended (omega (arith, r.rounds));
          }

  pub start_good : (centre : Mv) → Good cost (start_at cost centre)
  unfolding start_at
  start_good centre = record { grid = whole centre; measured = refl }

  module _ (centre : Mv) (limit : ℕ) where
    -- the vector is on the grid and in range, and the SAD is the vector's
    pub diamond_good : Good cost (diamond cost centre limit)
    unfolding diamond
    diamond_good = (down limit _ (start_good centre)).good

    -- the last SAD is at most the first
    pub sad_falls : (diamond cost centre limit).sad ≤ cost (gridded centre)
    unfolding diamond start_at
    sad_falls = omega (arith, (down limit _ (start_good centre)).fewer)

    -- rounds made are at most first SAD minus last SAD plus 1, and at most the limit
    pub rounds_fall : (diamond cost centre limit).rounds ≤ (cost (gridded centre) - (diamond cost centre limit).sad) + 1
    unfolding diamond start_at
    rounds_fall = omega (arith, (down limit _ (start_good centre)).fall, (down limit _ (start_good centre)).fewer)

    pub rounds-limit : (diamond cost centre limit).rounds ≤ limit
    unfolding diamond start_at
    rounds-limit = omega (arith, (down limit _ (start_good centre)).most)

    -- where they are fewer than the limit, the last was one without a move: no neighbour has a smaller SAD
    pub ends_settled : (diamond cost centre limit).rounds < limit → Settled cost (diamond cost centre limit).mv
    unfolding diamond start_at
    ends_settled h = (down limit _ (start_good centre)).ended (omega arith)

    -- SADs computed are at most 1 plus 4 times the rounds
    pub sads-most : (diamond cost centre limit).sads ≤ 1 + 4 * (diamond cost centre limit).rounds
    unfolding diamond start_at
    sads-most = omega (arith, (down limit _ (start_good centre)).more)

    -- with a limit above the first SAD no neighbour of the result has a smaller SAD
    pub settles : cost (gridded centre) < limit → Settled cost (diamond cost centre limit).mv
    unfolding diamond start_at
    settles h = (down limit _ (start_good centre)).settled h

    -- so with a limit of 65281 or more, where no SAD exceeds 65280
    pub no_better : ((v : Mv) → cost v ≤ 65280) → 65281 ≤ limit → Settled cost (diamond cost centre limit).mv
    no_better most h = settles (omega (arith, most (gridded centre)))

  -- limit 0 gives the start and its SAD, with the counts 1 and 0
  pub limit_none : (centre : Mv) → diamond cost centre 0 ≡ record { mv = gridded centre; sad = cost (gridded centre); sads = 1; rounds = 0 }
  unfolding diamond descend start_at
  limit_none centre = refl
