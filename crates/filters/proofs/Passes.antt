-- The two passes over lists are the two passes of RFC 6386 over the samples of the halo, over any filter set. Assumes nothing.
use Rattle.std.proofs.Common.{◌≡◌, refl, sym, ap, ◌∙◌, List, ℕ, zero, suc, ◌+◌, ◌*◌, ◌/◌, ◌%◌, ◌<◌, min, arith, get_or, ℤ, pos, ◌+ℤ◌, ◌-ℤ◌, ◌*ℤ◌}
use Rattle.laws.proofs.Signed.{same, times}
use Rattle.laws.specs.Tabulate.{tabulate}
use Rattle.laws.proofs.Tabulate.{tabulate-same, get_d_tabulate}
use Rattle.prediction.specs.Filter.{FilterRows, filtered}
use Rattle.prediction.specs.Prediction.{horizontal_at, vertical_at, square_of, halo_samples, filtered_mb}
use Rattle.filters.specs.Sets.{Identity, TwoTaps}
use Rattle.filters.specs.Internal.{window, filtered_list, across_of, down_of, inner_across, inner_down}
use Rattle.filters.proofs.Laws.{filtered-by, filtered-same, halo_reads}

-- sample k of a window
pub window-at : (xs : List ℕ) (at step k : ℕ) → k < 6 → get_or (window xs at step) k 0 ≡ get_or xs (at + k * step) 0
window-at xs at step zero h = ap (λ (n : ℕ). get_or xs n 0) (omega arith)
window-at xs at step (suc zero) h = ap (λ (n : ℕ). get_or xs n 0) (omega arith)
window-at xs at step (suc (suc zero)) h = refl
window-at xs at step (suc (suc (suc zero))) h = refl
window-at xs at step (suc (suc (suc (suc zero)))) h = refl
window-at xs at step (suc (suc (suc (suc (suc zero))))) h = refl
window-at xs at step (suc (suc (suc (suc (suc (suc k)))))) h = absurd (omega arith)

module _ (set : FilterRows) (mx my : ℕ) (halo : List ℕ) where
  -- one sample of the horizontal pass, in row b + j of the halo
  across_is : (n a b j : ℕ) → n / 16 ≡ b + j → n % 16 ≡ a
      → across_of set mx halo n ≡ horizontal_at set mx (halo_samples halo) (pos 0 +ℤ pos a) (pos 0 +ℤ pos b +ℤ pos j -ℤ pos 2)
  unfolding filtered_list horizontal_at
  across_is n a b j row column =
      filtered-same (set mx) _ _
      (λ i h. window-at halo (n / 16 * 21 + n % 16) 1 i h ∙ ap (λ (k : ℕ). get_or halo k 0) (place i) ∙ sym (halo_reads halo a b i j))
    where
      place : (i : ℕ) → n / 16 * 21 + n % 16 + i * 1 ≡ (b + j) * 21 + (a + i)
      place i = omega arith

  pub passes : tabulate 256 (down_of set my (tabulate 336 (across_of set mx halo))) ≡ filtered_mb set mx my halo
  unfolding filtered_list vertical_at square_of filtered_mb
  passes =
      tabulate-same 256 _ _
      (λ n h. filtered-same (set my) _ _
      (λ j l. window-at (tabulate 336 (across_of set mx halo)) n 16 j l ∙ get_d_tabulate 336 (across_of set mx halo) (n + j * 16) 0 (omega arith)
      ∙ across_is (n + j * 16) (n % 16) (n / 16) j (omega arith) (omega arith)))

-- where row 0 is the identity, it copies the third of six samples
pub kept_is : (set : FilterRows) → Identity set → (w : List ℕ) → min (get_or w 2 0) 255 ≡ filtered_list set 0 w
unfolding filtered_list
kept_is set whole w = whole.kept (λ k. get_or w k 0)

-- with two taps a filtered sample goes by the third and the fourth of its six samples
nothing : (x : ℕ) → pos 0 *ℤ pos x ≡ pos 0
nothing x = same _ _ (omega (arith, (times (pos 0) x).up, (times (pos 0) x).dn))

module _ (set : FilterRows) (two : TwoTaps set) (s : ℕ) (f g : ℕ → ℕ) where
  unread : (k : ℕ) → set s k ≡ pos 0 → set s k *ℤ pos (f k) ≡ set s k *ℤ pos (g k)
  unread k e = ap (λ (z : ℤ). z *ℤ pos (f k)) e ∙ nothing (f k) ∙ sym (ap (λ (z : ℤ). z *ℤ pos (g k)) e ∙ nothing (g k))

  pub two-same : f 2 ≡ g 2 → f 3 ≡ g 3 → filtered (set s) f ≡ filtered (set s) g
  two-same p q = filtered-by (set s) f g by
    where
      by : (k : ℕ) → k < 6 → set s k *ℤ pos (f k) ≡ set s k *ℤ pos (g k)
      by zero h = unread 0 (two.first s)
      by (suc zero) h = unread 1 (two.second s)
      by (suc (suc zero)) h = ap (λ (n : ℕ). set s 2 *ℤ pos n) p
      by (suc (suc (suc zero))) h = ap (λ (n : ℕ). set s 3 *ℤ pos n) q
      by (suc (suc (suc (suc zero)))) h = unread 4 (two.fifth s)
      by (suc (suc (suc (suc (suc zero))))) h = unread 5 (two.sixth s)
      by (suc (suc (suc (suc (suc (suc k)))))) h = absurd (omega arith)

-- so the vertical pass reads the rows 2 to 18 of the horizontal one, and no others
pub inner_rows : (set : FilterRows) → TwoTaps set → (mx my : ℕ) (halo : List ℕ)
    → tabulate 256 (inner_down set my (tabulate 272 (inner_across set mx halo))) ≡ tabulate 256 (down_of set my (tabulate 336 (across_of set mx halo)))
unfolding filtered_list
inner_rows set two mx my halo = tabulate-same 256 _ _ (λ n h. two-same set two my _ _ (at n h) (next n h))
  where
    inner : (i : ℕ) → i < 272 → get_or (tabulate 272 (inner_across set mx halo)) i 0 ≡ get_or (tabulate 336 (across_of set mx halo)) (i + 32) 0
    inner i l =
        get_d_tabulate 272 (inner_across set mx halo) i 0 l
        ∙ sym (get_d_tabulate 336 (across_of set mx halo) (i + 32) 0 (omega arith))

    at : (n : ℕ) → n < 256 → get_or (tabulate 272 (inner_across set mx halo)) n 0 ≡ get_or (tabulate 336 (across_of set mx halo)) (n + 32) 0
    at n h = inner n (omega arith)

    next : (n : ℕ) → n < 256 → get_or (tabulate 272 (inner_across set mx halo)) (n + 16) 0 ≡ get_or (tabulate 336 (across_of set mx halo)) (n + 48) 0
    next n h =
        let e : n + 16 + 32 ≡ n + 48 = omega arith in
        inner (n + 16) (omega arith) ∙ ap (λ (k : ℕ). get_or (tabulate 336 (across_of set mx halo)) k 0) e
