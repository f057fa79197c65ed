-- The samples that are copied out of a halo, and what the horizontal pass makes of them. Assumes nothing.
use Rattle.std.proofs.Common.{List, ◌≡◌, ap, ◌∙◌, ℕ, ◌+◌, ◌*◌, ◌/◌, ◌%◌, ◌≤◌, ◌<◌, min, arith, get_or}
use Rattle.laws.specs.Tabulate.{tabulate}
use Rattle.laws.proofs.Tabulate.{tabulate-same, get_d_tabulate, fill_at}
use Rattle.prediction.specs.Filter.{bilinear}
use Rattle.filters.specs.Internal.{window, inner_across}
use Rattle.filters.proofs.Passes.{kept_is}
use Rattle.bilinear.specs.Internal.{mean_of, columns_of, bytes_of, weighed_of, Copying}
use Rattle.bilinear.proofs.Mean.{mean_list, bilinear-whole}

pub copied_at : {right : ℕ} {halo out : List ℕ} {i j : ℕ} → i ≡ j → Copying right halo out i → Copying right halo out j
copied_at e p = record { samples = fill_at e p.samples; bytes = fill_at e p.bytes }

-- where the six samples of one of the rows 2 to 18 begin
abbrev first : ℕ → ℕ
first i = (i + 32) / 16 * 21 + (i + 32) % 16

third : (halo : List ℕ) (i : ℕ) → columns_of 0 halo i ≡ get_or (window halo (first i) 1) 2 0
third halo i =
    let e : i / 16 * 21 + i % 16 + 44 + 0 ≡ first i + 2 * 1 = omega arith in
    ap (λ (n : ℕ). get_or halo n 0) e

fourth : (halo : List ℕ) (i : ℕ) → columns_of 1 halo i ≡ get_or (window halo (first i) 1) 3 0
fourth halo i =
    let e : i / 16 * 21 + i % 16 + 44 + 1 ≡ first i + 3 * 1 = omega arith in
    ap (λ (n : ℕ). get_or halo n 0) e

-- with selector 0 the pass is a copy; else it weighs each sample and the next one
pub copied : (halo : List ℕ) → tabulate 272 (bytes_of 0 halo) ≡ tabulate 272 (inner_across bilinear 0 halo)
copied halo = tabulate-same 272 _ _ (λ i h. ap (λ (n : ℕ). min n 255) (third halo i) ∙ kept_is bilinear bilinear-whole (window halo (first i) 1))

pub weighed : (s : ℕ) (halo samples next : List ℕ) → s ≤ 7 → samples ≡ tabulate 272 (columns_of 0 halo) → next ≡ tabulate 272 (columns_of 1 halo)
    → tabulate 272 (weighed_of s 0 samples next) ≡ tabulate 272 (inner_across bilinear s halo)
weighed s halo samples next h p q = tabulate-same 272 _ _ (λ i l. at i l ∙ mean_list s (window halo (first i) 1) h)
  where
    at : (i : ℕ) → i < 272 → weighed_of s 0 samples next i ≡ mean_of s (get_or (window halo (first i) 1) 2 0) (get_or (window halo (first i) 1) 3 0)
    at i l =
        let x = ap (λ (xs : List ℕ). get_or xs i 0) p ∙ get_d_tabulate 272 (columns_of 0 halo) i 0 l ∙ third halo i in
        let y = ap (λ (xs : List ℕ). get_or xs i 0) q ∙ get_d_tabulate 272 (columns_of 1 halo) i 0 l ∙ fourth halo i in
        let z : i + 0 ≡ i = omega arith in
        ap (λ (n : ℕ). mean_of s (get_or samples i 0) (get_or next n 0)) z ∙ ap (λ (n : ℕ). mean_of s n (get_or next i 0)) x ∙ ap (mean_of s (get_or (window halo (first i) 1) 2 0)) y
