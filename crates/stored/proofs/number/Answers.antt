use Rattle.std.proofs.Common.{arith, ◌≡◌, ◌*◌, ◌+◌, ◌/◌, ◌<◌, ℕ, zero, suc, List, length, get_or, drop, refl, ap, ◌∙◌}
use Rattle.std.specs.Simd.{first_chunks}
use Rattle.std.proofs.lemmas.List.{get_or-take, get_or-drop}
use Rattle.stored.specs.Stored.{number_at}
use Rattle.std.specs.Int.{from_le_bytes, w64}
use Rattle.std.proofs.lemmas.Bool.{lt-ltb}
use Rattle.stored.proofs.number.Goals as goal

-- byte i of the k-th of m chunks of 8
chunk_byte : (m k i j : ℕ) (bytes : List ℕ) (d : List ℕ) → k < m → i < 8 → k * 8 + i ≡ j → get_or (get_or (first_chunks 8 m bytes) k d) i 0 ≡ get_or bytes j 0
chunk_byte zero k i j bytes d h g e = absurd (omega arith)
chunk_byte (suc m) zero i j bytes d h g e =
    let at : i ≡ j = omega arith in get_or-take 8 bytes i 0 g ∙ ap (λ x. get_or bytes x 0) at
chunk_byte (suc m) (suc k) i j bytes d h g e =
    let at : 8 + (k * 8 + i) ≡ j = omega arith in
    chunk_byte m k i (k * 8 + i) (drop 8 bytes) d (omega arith) g refl ∙ get_or-drop 8 bytes (k * 8 + i) 0 ∙ ap (λ x. get_or bytes x 0) at

-- the number of eight bytes from 8 k on
number_read : (n k : ℕ) (bytes eight : List ℕ) → k < length bytes / 8 → ((i j : ℕ) → i < 8 → k * 8 + i ≡ j → get_or eight i 0 ≡ get_or bytes j 0) → n ≡ from_le_bytes w64 eight → n ≡ number_at bytes k
number_read n k bytes eight below byte is =
    let at = k * 8 in
    let b0 = byte 0 at (omega arith) (omega arith) in
    let b1 = byte 1 (at + 1) (omega arith) (omega arith) in
    let b2 = byte 2 (at + 2) (omega arith) (omega arith) in
    let b3 = byte 3 (at + 3) (omega arith) (omega arith) in
    let b4 = byte 4 (at + 4) (omega arith) (omega arith) in
    let b5 = byte 5 (at + 4 + 1) (omega arith) (omega arith) in
    let b6 = byte 6 (at + 4 + 2) (omega arith) (omega arith) in
    let b7 = byte 7 (at + 4 + 3) (omega arith) (omega arith) in
    simp (lt-ltb k (length bytes / 8) below) (omega arith)

pub returns-in-Some : goal.returns-in-Some
returns-in-Some c =
    let bytes = c.args.bytes.now in
    let k = c.args.index in
    let eight = c.in-Some.eight.now in
    let l = c.in-Some.ensures.lookup in
    let below : k < length bytes / 8 = omega (arith, l.3.0, c.as_chunks.ensures.front_len) in
    let is = l.1 ∙ ap (λ xs. get_or xs k eight) c.as_chunks.ensures.front in
    number_read _ k bytes eight below (λ i j h e. ap (λ x. get_or x i 0) is ∙ chunk_byte _ k i j bytes eight below h e) c.from_le_bytes.ensures
