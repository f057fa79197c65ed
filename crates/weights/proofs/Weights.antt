-- The weight curves: the rule of the whole table carried to each entry, where a weight is 0, and how large it can be. Assumes nothing.
use Rattle.std.proofs.Common.{◌≡◌, refl, sym, ap, ◌∙◌, List, [], ◌∷◌, ◌++◌, ◌↔◌, ℕ, zero, suc, ◌+◌, ◌*◌, ◌/◌, ◌≤◌, ◌<◌, min, div-lt_iff_lt-mul, mul-pos, add-zero, arith, pow_pos, length, get_or, replicate, ext_get_or}
use Rattle.std.proofs.Math.Nat.{div-eq_of_lt}
use Rattle.std.proofs.lemmas.List.{length-replicate, get_or-replicate}
use Rattle.laws.proofs.Tables.{listed}
use Rattle.laws.specs.Tabulate.{tabulate}
use Rattle.laws.proofs.Tabulate.{length-tabulate, get_d_tabulate, tabulate-same}
use Rattle.weights.specs.Weights.{scale, weight_of, weight_read, capped_weight}

-- the rows of n strengths by their rule
unfoldable pub rows : ℕ → ℕ → List (List ℕ)
rows strength zero = []
rows strength (suc n) = listed (weight_of strength) 0 256 ∷ rows (suc strength) n

-- the whole table: antt computes all 1536 weights where the code's table is held against them
unfoldable pub table : List (List ℕ)
table = rows 1 6

-- a list from the front is the tabulated one
last : (f : ℕ → ℕ) (i n : ℕ) → listed f i (suc n) ≡ listed f i n ++ (f (i + n) ∷ [])
unfolding listed
last f i zero = ap (λ (k : ℕ). f k ∷ []) (sym (add-zero i))
last f i (suc n) = ap (λ (l : List ℕ). f i ∷ l) (last f (suc i) n ∙ ap (λ (k : ℕ). listed f (suc i) n ++ (f k ∷ [])) (omega arith))

listed_is : (f : ℕ → ℕ) (n : ℕ) → listed f 0 n ≡ tabulate n f
unfolding listed tabulate
listed_is f zero = refl
listed_is f (suc n) =
    last f 0 n ∙ ap (λ (k : ℕ). listed f 0 n ++ (f k ∷ [])) (omega arith) ∙ ap (λ (l : List ℕ). l ++ (f n ∷ [])) (listed_is f n)

from : (strength n row : ℕ) → row < n → get_or (rows strength n) row [] ≡ tabulate 256 (weight_of (strength + row))
unfolding rows
from strength zero row h = absurd (omega arith)
from strength (suc n) zero h = listed_is (weight_of strength) 256 ∙ ap (λ (s : ℕ). tabulate 256 (weight_of s)) (sym (add-zero strength))
from strength (suc n) (suc row) h = from (suc strength) n row (omega arith) ∙ ap (λ (s : ℕ). tabulate 256 (weight_of s)) (omega arith)

-- a row of the table is the curve of its strength, and each entry is the weight by the division rule
pub row_is : (row : ℕ) → row < 6 → get_or table row [] ≡ tabulate 256 (weight_of (row + 1))
unfolding table
row_is row h = from 1 6 row h ∙ ap (λ (s : ℕ). tabulate 256 (weight_of s)) (omega arith)

pub entry : (row e : ℕ) → row < 6 → e < 256 → get_or (get_or table row []) e 0 ≡ weight_of (row + 1) e
entry row e h k = ap (λ (l : List ℕ). get_or l e 0) (row_is row h) ∙ get_d_tabulate 256 (weight_of (row + 1)) e 0 k

-- a strength byte: 0 has no weights, and the others are read as at most 6
pub read_none : (e : ℕ) → weight_read 0 e ≡ 0
unfolding weight_read
read_none e = refl

pub read_some : (strength e : ℕ) → 0 < strength → weight_read strength e ≡ weight_of (min strength 6) e
unfolding weight_read
read_some zero e h = absurd (omega arith)
read_some (suc s) e h = refl

pub zeros : (f : ℕ → ℕ) (n : ℕ) → ((e : ℕ) → f e ≡ 0) → replicate n 0 ≡ tabulate n f
zeros f n h =
    ext_get_or 0 (replicate n 0) (tabulate n f) (long ∙ sym (length-tabulate n f))
    (λ i l. let b : i < n = omega (arith, long) in get_or-replicate n i 0 0 b ∙ sym (get_d_tabulate n f i 0 b ∙ h i))
  where
    long : length {A = ℕ} (replicate n 0) ≡ n
    long = length-replicate {A = ℕ} n 0

pub read_as : (strength s n : ℕ) → 0 < strength → min strength 6 ≡ s → tabulate n (weight_of s) ≡ tabulate n (weight_read strength)
read_as strength s n some e =
    tabulate-same n (weight_of s) (weight_read strength)
    (λ k l. ap (λ (t : ℕ). weight_of t k) (sym e) ∙ sym (read_some strength k some))

scale-pos : (strength : ℕ) → 0 < scale strength
unfolding scale
scale-pos strength = mul-pos {m = 8} (omega arith) (pow_pos strength)

-- a weight is 0 exactly where the square of the difference exceeds 15 times the scale
pub zero-weight : (strength e : ℕ) → (weight_of strength e ≡ 0) ↔ (15 * scale strength < e * e)
unfolding weight_of
zero-weight strength e = (there, back)
  where
    pos : 0 < scale strength + e * e
    pos = omega (arith, scale-pos strength)

    there : 16 * scale strength / (scale strength + e * e) ≡ 0 → 15 * scale strength < e * e
    there z =
        let l : 16 * scale strength / (scale strength + e * e) < 1 = omega arith in
        omega (arith, (div-lt_iff_lt-mul pos).0 l)

    back : 15 * scale strength < e * e → 16 * scale strength / (scale strength + e * e) ≡ 0
    back l = div-eq_of_lt (omega arith)

pub zero_read : (strength e : ℕ) → 0 < strength → (weight_read strength e ≡ 0) ↔ (15 * scale (min strength 6) < e * e)
zero_read strength e some =
    (λ z. (zero-weight (min strength 6) e).0 (sym (read_some strength e some) ∙ z), λ l. read_some strength e some ∙ (zero-weight (min strength 6) e).1 l)

-- no weight exceeds the centre's
pub weight-most : (strength e : ℕ) → weight_of strength e ≤ 16
unfolding weight_of
weight-most strength e =
    let pos : 0 < scale strength + e * e = omega (arith, scale-pos strength) in
    let l : 16 * scale strength / (scale strength + e * e) < 17 = (div-lt_iff_lt-mul pos).1 (omega (arith, scale-pos strength)) in
    omega arith

pub read_most : (strength e : ℕ) → weight_read strength e ≤ 16
unfolding weight_read
read_most zero e = omega arith
read_most (suc s) e = weight-most (min (suc s) 6) e

-- a capped weight is at most the cap and at most the curve's weight; a cap of 16 takes nothing away, and a cap of 0 leaves nothing
pub record Capped (cap strength e : ℕ) : Type 0 where
  pub by-cap : capped_weight cap strength e ≤ cap
  pub by-curve : capped_weight cap strength e ≤ weight_read strength e
  pub whole : 16 ≤ cap → capped_weight cap strength e ≡ weight_read strength e
  pub none : cap ≡ 0 → capped_weight cap strength e ≡ 0

pub capped : (cap strength e : ℕ) → Capped cap strength e
unfolding capped_weight
capped cap strength e =
    record {
      by-cap = omega arith;
      by-curve = omega arith;
      whole = λ h. let m = read_most strength e in omega arith;
      none = λ h. omega arith;
    }
