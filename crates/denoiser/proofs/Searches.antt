-- Laws of the block search, over any cost. Assumes nothing.
use Rattle.std.proofs.Common.{◌≡◌, refl, sym, ap, subst, ◌∙◌, Bool, true, false, cond, List, [], ◌∷◌, ◌++◌, ℕ, zero, suc, ◌+◌, ◌*◌, ◌/◌, ◌%◌, ◌≤◌, ◌<◌, mul-le-mul_right, le_trans, arith, ltb, ℤ, pos, ◌+ℤ◌, length}
use Rattle.laws.specs.Signed.{above, below}
use Rattle.laws.proofs.Signed.{sum, diff}
use Rattle.laws.specs.Best.{better_of, best_of, best_among, best_in}
use Rattle.laws.proofs.Best.{among_append, among_least, among_one}
use Rattle.laws.proofs.Each.{Each, each_append, each_map}
use Rattle.denoiser.specs.declared.Displacement.{Displacement}
use Rattle.denoiser.specs.Search.{neighbour_of, neighbours_of, stepped, measured_by, block_search, still}
use Rattle.denoiser.specs.Internal.{step_best, Reach, Short}
use Rattle.laws.specs.Square.{square_place, step_to}
use Rattle.laws.proofs.Square.{place-most}

-- a neighbour is one step further at most
step_reach : (v : ℤ) (m place step : ℕ) → place ≤ 2 → above v ≤ m → below v ≤ m
    → (above (step_to v place step) ≤ m + step) × (below (step_to v place step) ≤ m + step)
step_reach v m place step h a b =
    omega (arith, mul-le-mul_right step h, sum v (pos (place * step)), diff (v +ℤ pos (place * step)) (pos step))

pub neighbour-reach : (d : Displacement) (m step k : ℕ) → k < 8 → Reach m d → Reach (m + step) (neighbour_of d step k)
unfolding neighbour_of
neighbour-reach d m step k h r =
    let x = step_reach d.dx m (square_place k % 3) step (omega arith) r.right r.left in
    let y = step_reach d.dy m (square_place k / 3) step (omega (arith, place-most k h)) r.down r.up in
    record { right = x.0; left = x.1; down = y.0; up = y.1 }

pub wider : (m n : ℕ) (d : Displacement) → m ≤ n → Reach m d → Reach n d
wider m n d h r = record { right = le_trans r.right h; left = le_trans r.left h; down = le_trans r.down h; up = le_trans r.up h }

module _ (cost : Displacement → ℕ) where
  better_reach : (best d : Displacement) (m : ℕ) → Reach m best → Reach m d → Reach m (better_of cost best d)
  unfolding better_of
  better_reach best d m a b = by (ltb (cost d) (cost best))
    where
      by : (t : Bool) → Reach m (cond t d best)
      by true = b
      by false = a

  best_reach : (from : Displacement) (m step n : ℕ) → n ≤ 8 → Reach m from → Reach (m + step) (best_of cost from (neighbour_of from step) n)
  unfolding best_of
  best_reach from m step zero h r = wider m (m + step) from (omega arith) r
  best_reach from m step (suc n) h r =
      better_reach (best_of cost from (neighbour_of from step) n) (neighbour_of from step n) (m + step)
      (best_reach from m step n (omega arith) r) (neighbour-reach from m step n h r)

  pub step_best-reach : (step m : ℕ) (best : Displacement) → Reach m best → Reach (m + step) (step_best cost step best)
  unfolding step_best
  step_best-reach step m best r = best_reach best m step 8 (omega arith) r

  -- the search is four steps, one after the other
  among_eight : (best d : Displacement) (step : ℕ) → best_among cost best (neighbours_of d step) ≡ best_of cost best (neighbour_of d step) 8
  unfolding best_among best_of neighbours_of
  among_eight best d step = refl

  -- what is measured after (0, 0): one step's, and all
  more : ℕ → List Displacement → List Displacement
  more step tried = tried ++ neighbours_of (best_among cost still tried) step

  tried : List Displacement
  tried = more 1 (more 2 (more 4 (more 8 [])))

  more_is : (step : ℕ) (t : List Displacement) → stepped cost step (still ∷ t) ≡ still ∷ more step t
  unfolding stepped best_in more
  more_is step t = refl

  measured_is : measured_by cost ≡ still ∷ tried
  unfolding measured_by tried
  measured_is =
      ap (λ (l : List Displacement). stepped cost 1 (stepped cost 2 (stepped cost 4 l))) (more_is 8 [])
      ∙ ap (λ (l : List Displacement). stepped cost 1 (stepped cost 2 l)) (more_is 4 (more 8 []))
      ∙ ap (stepped cost 1) (more_is 2 (more 4 (more 8 [])))
      ∙ more_is 1 (more 2 (more 4 (more 8 [])))

  search_is : block_search cost ≡ best_among cost still tried
  unfolding block_search best_in
  search_is = ap (best_in cost still) measured_is

  step_is : (step : ℕ) (t : List Displacement) → best_among cost still (more step t) ≡ step_best cost step (best_among cost still t)
  unfolding more step_best
  step_is step t = among_append cost still t (neighbours_of (best_among cost still t) step) ∙ among_eight (best_among cost still t) (best_among cost still t) step

  first_is : best_among cost still (more 8 []) ≡ step_best cost 8 still
  unfolding best_among
  first_is = step_is 8 []

  second_is : best_among cost still (more 4 (more 8 [])) ≡ step_best cost 4 (step_best cost 8 still)
  second_is = step_is 4 (more 8 []) ∙ ap (step_best cost 4) first_is

  third_is : best_among cost still (more 2 (more 4 (more 8 []))) ≡ step_best cost 2 (step_best cost 4 (step_best cost 8 still))
  third_is = step_is 2 (more 4 (more 8 [])) ∙ ap (step_best cost 2) second_is

  pub search_steps : block_search cost ≡ step_best cost 1 (step_best cost 2 (step_best cost 4 (step_best cost 8 still)))
  unfolding tried
  search_steps = search_is ∙ step_is 1 (more 2 (more 4 (more 8 []))) ∙ ap (step_best cost 1) third_is

  -- every displacement that is measured, and so the last best, is within -15 to 15
  each_eight : (P : Displacement → Type 0) (d : Displacement) (step : ℕ) → ((k : ℕ) → k < 8 → P (neighbour_of d step k)) → Each P (neighbours_of d step)
  unfolding neighbours_of
  each_eight P d step h =
      (h 0 (omega arith), (h 1 (omega arith), (h 2 (omega arith), (h 3 (omega arith), (h 4 (omega arith), (h 5 (omega arith), (h 6 (omega arith), (h 7 (omega arith), tt))))))))

  more-reach : (m step : ℕ) (t : List Displacement) → Reach m still → Each (Reach m) t → Each (Reach (m + step)) (more step t)
  unfolding more
  more-reach m step t s e =
      each_append (Reach (m + step)) t _ (each_map (λ d r. wider m (m + step) d (omega arith) r) t e)
      (each_eight (Reach (m + step)) _ step (λ k h. neighbour-reach (best_among cost still t) m step k h (among_one cost (Reach m) still t (s, e))))

  still-reach : (m : ℕ) → Reach m still
  still-reach m = record { right = omega arith; left = omega arith; down = omega arith; up = omega arith }

  tried-short : Each Short (still ∷ tried)
  unfolding tried
  tried-short =
      let t8 = more-reach 0 8 [] (still-reach 0) tt in
      let t4 = more-reach 8 4 (more 8 []) (still-reach 8) t8 in
      let t2 = more-reach 12 2 (more 4 (more 8 [])) (still-reach 12) t4 in
      (still-reach 15, more-reach 14 1 (more 2 (more 4 (more 8 []))) (still-reach 14) t2)

  pub measured-short : Each Short (measured_by cost)
  measured-short = rw measured_is tried-short

  pub search_reach : Short (block_search cost)
  search_reach = rw search_is (among_one cost Short still tried tried-short)

  -- the search's displacement costs least of all that are measured, and is one of them
  pub search_least : Each (λ d. cost (block_search cost) ≤ cost d) (measured_by cost)
  search_least =
      rw measured_is
      (subst (λ b. Each (λ d. cost b ≤ cost d) (still ∷ tried)) (sym search_is) (among_least cost still tried))

  pub search_one : (P : Displacement → Type 0) → Each P (measured_by cost) → P (block_search cost)
  search_one P e = rw search_is (among_one cost P still tried (rw measured_is at e))

  pub measured-count : length (measured_by cost) ≡ 33
  unfolding tried more neighbours_of
  measured-count = ap length measured_is
