-- Laws of `gate`: what counts and what does not. Assumes nothing.
use Rattle.std.proofs.Common.{◌≡◌, refl, sym, ap, ◌∙◌, Bool, true, false, ◌&&◌, ℕ, ◌+◌, ◌*◌, ◌≤◌, ◌<◌, arith, eqb, leb, ltb, eq-eqb, ne_eqb, le-leb, lt-ltb, le-ltb, leb-true, ltb-true}
use Rattle.std.proofs.Math.Decide.{dec_lt, dec_le, ℕ_discrete}
use Rattle.std.proofs.lemmas.Bool.{lt-leb}
use Rattle.denoiser.specs.Window.{gate}
use Rattle.denoiser.specs.declared.Block.{Block}
use Rattle.denoiser.specs.Internal.{between, within}

-- the one step of every count: what is below i, with i itself, is what is below i + 1
pub gate_step : (k i v : ℕ) → gate (ltb k i) v + gate (eqb k i) v ≡ gate (ltb k (i + 1)) v
unfolding gate
gate_step k i v = by (ℕ_discrete k i) (dec_lt k i)
  where
    by : Dec (k ≡ i) → Dec (k < i) → gate (ltb k i) v + gate (eqb k i) v ≡ gate (ltb k (i + 1)) v
    by (yes e) d = simp (le-ltb k i (omega arith), eq-eqb k i e, lt-ltb k (i + 1) (omega arith)) (omega arith)
    by (no g) (yes l) = simp (lt-ltb k i l, ne_eqb k i g, lt-ltb k (i + 1) (omega arith)) (omega arith)
    by (no g) (no l) = simp (le-ltb k i (omega arith), ne_eqb k i g, le-ltb k (i + 1) (omega arith)) (omega arith)

pub gate-both : (a b : Bool) (v : ℕ) → gate (a && b) v ≡ gate a (gate b v)
unfolding gate
gate-both true b v = refl
gate-both false b v = refl

pub gate-most : (b : Bool) (v m : ℕ) → v ≤ m → gate b v ≤ m
unfolding gate
gate-most true v m h = h
gate-most false v m h = omega arith

pub gate_times : (t : Bool) (u v : ℕ) → gate t (u * v) ≡ gate t u * v
unfolding gate
gate_times true u v = refl
gate_times false u v = omega arith

pub between_none : (a x v : ℕ) → gate (between a 0 x) v ≡ 0
unfolding gate between
between_none a x v = by (dec_le a x)
  where
    by : Dec (a ≤ x) → gate (between a 0 x) v ≡ 0
    by (yes l) = simp (le-leb a x l, le-ltb x (a + 0) (omega arith))
    by (no g) = simp (lt-leb a x (omega arith))

pub between_step : (a n x v : ℕ) → gate (between a n x) v + gate (eqb x (a + n)) v ≡ gate (between a (n + 1) x) v
unfolding gate between
between_step a n x v = by (dec_le a x) (ℕ_discrete x (a + n)) (dec_lt x (a + n))
  where
    by : Dec (a ≤ x) → Dec (x ≡ a + n) → Dec (x < a + n) → gate (between a n x) v + gate (eqb x (a + n)) v ≡ gate (between a (n + 1) x) v
    by (no g) e d = simp (lt-leb a x (omega arith), ne_eqb x (a + n) (omega arith)) (omega arith)
    by (yes l) (yes e) d = simp (le-leb a x l, le-ltb x (a + n) (omega arith), eq-eqb x (a + n) e, lt-ltb x (a + (n + 1)) (omega arith)) (omega arith)
    by (yes l) (no e) (yes m) = simp (le-leb a x l, lt-ltb x (a + n) m, ne_eqb x (a + n) e, lt-ltb x (a + (n + 1)) (omega arith)) (omega arith)
    by (yes l) (no e) (no m) = simp (le-leb a x l, le-ltb x (a + n) (omega arith), ne_eqb x (a + n) e, le-ltb x (a + (n + 1)) (omega arith)) (omega arith)

-- a test that holds puts its number in place of the other
pub gate-eq : (a b : ℕ) (f : ℕ → ℕ) → gate (eqb a b) (f b) ≡ gate (eqb a b) (f a)
unfolding gate
gate-eq a b f = by (ℕ_discrete a b)
  where
    by : Dec (a ≡ b) → gate (eqb a b) (f b) ≡ gate (eqb a b) (f a)
    by (yes e) = simp (eq-eqb a b e) (ap f (sym e))
    by (no g) = simp (ne_eqb a b g)

pub gate-add : (t : Bool) (u v : ℕ) → gate t u + gate t v ≡ gate t (u + v)
unfolding gate
gate-add true u v = refl
gate-add false u v = refl

pub gate-zero : (t : Bool) → gate t 0 ≡ 0
unfolding gate
gate-zero true = refl
gate-zero false = refl

pub gate_off : (v : ℕ) → gate false v ≡ 0
unfolding gate
gate_off v = refl

pub gate_on : (t : Bool) (v : ℕ) → t ≡ true → gate t v ≡ v
unfolding gate
gate_on t v e = simp e

-- one step of the two counts, and their ends
pub across : (q i p j v : ℕ) → gate (eqb q i) (gate (ltb p j) v) + gate (eqb q i) (gate (eqb p j) v) ≡ gate (eqb q i) (gate (ltb p (j + 1)) v)
across q i p j v = gate-add (eqb q i) (gate (ltb p j) v) (gate (eqb p j) v) ∙ ap (gate (eqb q i)) (gate_step p j v)

pub gate-less : (p n v : ℕ) → p < n → gate (ltb p n) v ≡ v
gate-less p n v h = gate_on (ltb p n) v (lt-ltb p n h)

pub gate_none : (p v : ℕ) → gate (ltb p 0) v ≡ 0
gate_none p v = ap (λ (t : Bool). gate t v) (le-ltb p 0 (omega arith)) ∙ gate_off v

pub row_none : (q i p v : ℕ) → gate (eqb q i) (gate (ltb p 0) v) ≡ 0
row_none q i p v = ap (gate (eqb q i)) (gate_none p v) ∙ gate-zero (eqb q i)

-- a gate asks of what it holds only where it is open; so a block's asks at the places that it covers
pub gate-by : (t : Bool) (u v : ℕ) → (t ≡ true → u ≡ v) → gate t u ≡ gate t v
unfolding gate
gate-by true u v h = h refl
gate-by false u v h = refl

pub both : (s t : Bool) → (s && t) ≡ true → (s ≡ true) × (t ≡ true)
both true t e = (refl, e)
both false t e = absurd (let z : ◌≡◌ {A = ℕ} 0 1 = cc in omega arith)

pub gate-inside : (b : Block) (x y u v : ℕ) → (b.x ≤ x → x < b.x + b.columns → b.y ≤ y → y < b.y + b.rows → u ≡ v) → gate (within b x y) u ≡ gate (within b x y) v
unfolding within between
gate-inside b x y u v h =
    gate-by _ u v
    (λ e.
    let p = both _ _ e in
    let q = both (leb b.y y) _ p.0 in
    let r = both (leb b.x x) _ p.1 in
    h (leb-true b.x x r.0) (ltb-true x (b.x + b.columns) r.1) (leb-true b.y y q.0) (ltb-true y (b.y + b.rows) q.1))
