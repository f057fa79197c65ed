-- Signs and sizes of the taps: each by one test over the whole table. Assumes nothing.
use Rattle.std.proofs.Common.{Bool, List, [], ◌≡◌, ℕ, ◌+◌, ◌≤◌, arith, leb, leb→le, get_or, ℤ, pos, nat_abs, neg_ℤ, w32, SFits}
use Rattle.laws.proofs.Tables.{every, at}
use Rattle.laws.specs.Signed.{above, below}
use Rattle.laws.proofs.Signed.{self, neg, same}
use Rattle.prediction.specs.Filter.{sixtap_rows, sixtap}

small : ℤ → Bool
small z = leb (nat_abs z) 128

pub tap-small : (s k : ℕ) → nat_abs (sixtap s k) ≤ 128
unfolding sixtap sixtap_rows small
tap-small s k = leb→le _ _ (at small (pos 0) (get_or sixtap_rows s []) tt (at (every small) [] sixtap_rows tt tt s) k)

pub tap-fits : (s k : ℕ) → SFits w32 (sixtap s k)
tap-fits s k = omega (arith, tap-small s k, self (sixtap s k))

-- tap k of a row
abbrev tap : List ℤ → ℕ → ℤ
tap r k = get_or r k (pos 0)

-- of a row: what is of the wrong sign; the sum of what is added; the sum of what is taken away
abbrev wrong : List ℤ → ℕ
wrong r = below (tap r 0) + above (tap r 1) + below (tap r 2) + below (tap r 3) + above (tap r 4) + below (tap r 5)

abbrev more : List ℤ → ℕ
more r = above (tap r 0) + above (tap r 2) + above (tap r 3) + above (tap r 5)

abbrev less : List ℤ → ℕ
less r = below (tap r 1) + below (tap r 4)

signed : List ℤ → Bool
signed r = leb (wrong r) 0

added : List ℤ → Bool
added r = leb (more r) 160

taken : List ℤ → Bool
taken r = leb (less r) 32

pub signs_right : (s : ℕ) → below (sixtap s 0) + above (sixtap s 1) + below (sixtap s 2) + below (sixtap s 3) + above (sixtap s 4) + below (sixtap s 5) ≤ 0
unfolding sixtap sixtap_rows signed
signs_right s = leb→le _ _ (at signed [] sixtap_rows tt tt s)

pub added-small : (s : ℕ) → above (sixtap s 0) + above (sixtap s 2) + above (sixtap s 3) + above (sixtap s 5) ≤ 160
unfolding sixtap sixtap_rows added
added-small s = leb→le _ _ (at added [] sixtap_rows tt tt s)

pub taken-small : (s : ℕ) → below (sixtap s 1) + below (sixtap s 4) ≤ 32
unfolding sixtap sixtap_rows taken
taken-small s = leb→le _ _ (at taken [] sixtap_rows tt tt s)

-- a number by its part above or below zero, the other being 0
pub by-above : (z : ℤ) (n : ℕ) → n ≡ above z → below z ≡ 0 → z ≡ pos n
by-above z n e h = same z (pos n) (omega arith)

pub by-below : (z : ℤ) (n : ℕ) → n ≡ below z → above z ≡ 0 → z ≡ neg_ℤ (pos n)
by-below z n e h = same z (neg_ℤ (pos n)) (omega (arith, neg (pos n)))
