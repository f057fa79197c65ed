-- The other frames, as a list: how a loop over the frame list that passes the centre over comes to it. Assumes nothing.
use Rattle.std.proofs.Common.{◌≡◌, refl, sym, ap, ◌∙◌, Bool, true, false, cond, List, [], ◌∷◌, ◌++◌, map, ℕ, zero, suc, ◌+◌, ◌*◌, ◌≤◌, ◌<◌, mul-le-mul_right, mul_comm, add-one, arith, eqb, length, length-append, eq-eqb, ne_eqb}
use Rattle.std.proofs.Math.Decide.{ℕ_discrete}
use Rattle.std.proofs.lemmas.List.{length-map}
use Rattle.laws.specs.Front.{list_of}
use Rattle.laws.specs.Sums.{sum_below, sum_over}
use Rattle.laws.proofs.Sums.{sum_over-same, sum_over-append, sum_over-most}
use Rattle.laws.proofs.Orders.{sum-listed}
use Rattle.laws.proofs.Each.{Each, each_append}
use Rattle.window.specs.declared.Frame.{Frame}
use Rattle.window.specs.Frames.{frame_at}
use Rattle.denoiser.specs.Window.{Other}
use Rattle.denoiser.specs.Pictures.{other_of, all_but, others_of}

sum-map : {A B : Type 0} (f : B → ℕ) (p : A → B) (xs : List A) → sum_over f (map p xs) ≡ sum_over (λ x. f (p x)) xs
unfolding sum_over
sum-map f p [] = refl
sum-map f p (x ∷ xs) = ap (λ (t : ℕ). f (p x) + t) (sum-map f p xs)

one : (f : ℕ → ℕ) (n : ℕ) → sum_over f (n ∷ []) ≡ f n
unfolding sum_over
one f n = omega arith

but_more : (f : ℕ → ℕ) (c n : ℕ) → (n ≡ c → ⊥) → sum_over f (all_but c (n + 1)) ≡ sum_over f (all_but c n) + f n
unfolding all_but
but_more f c n g = rw add-one (simp (ne_eqb n c g) (sum_over-append f (all_but c n) (n ∷ []) ∙ ap (λ (t : ℕ). sum_over f (all_but c n) + t) (one f n)))

but_centre : (f : ℕ → ℕ) (c n : ℕ) → n ≡ c → sum_over f (all_but c (n + 1)) ≡ sum_over f (all_but c n)
unfolding all_but
but_centre f c n e = rw add-one (simp (eq-eqb n c e))

-- a sum below n is that of c and that of all but c
but_split : (f : ℕ → ℕ) (c n : ℕ) → c < n → sum_below f n ≡ f c + sum_over f (all_but c n)
unfolding all_but sum_below sum_over
but_split f c zero h = absurd (omega arith)
but_split f c (suc n) h = by (but_split f c n) (ℕ_discrete n c)
  where
    all : (m : ℕ) → m ≤ c → sum_below f m ≡ sum_over f (all_but c m)
    all zero l = refl
    all (suc m) l =
        let a = all m (omega arith) in
        let b : sum_over f (all_but c (suc m)) ≡ sum_over f (all_but c m) + f m = rw (add-one m) at (but_more f c m (λ e. omega arith)) in
        omega arith

    by : (c < n → sum_below f n ≡ f c + sum_over f (all_but c n)) → Dec (n ≡ c) → sum_below f (suc n) ≡ f c + sum_over f (all_but c (suc n))
    by ih (yes e) =
        let a = all n (omega arith) in
        let b : sum_over f (all_but c (suc n)) ≡ sum_over f (all_but c n) = rw (add-one n) at (but_centre f c n e) in
        let d = ap f e in
        omega arith
    by ih (no g) =
        let a = ih (omega arith) in
        let b : sum_over f (all_but c (suc n)) ≡ sum_over f (all_but c n) + f n = rw (add-one n) at (but_more f c n g) in
        omega arith

-- there is one fewer than all
but_count : (c n : ℕ) → c < n → length (all_but c n) + 1 ≡ n
unfolding all_but
but_count c zero h = absurd (omega arith)
but_count c (suc n) h = by (but_count c n) (ℕ_discrete n c)
  where
    all : (m : ℕ) → m ≤ c → length (all_but c m) ≡ m
    all zero l = refl
    all (suc m) l = simp (ne_eqb m c (omega arith)) (length-append (all_but c m) (m ∷ []) ∙ let a = all m (omega arith) in omega arith)

    by : (c < n → length (all_but c n) + 1 ≡ n) → Dec (n ≡ c) → length (all_but c (suc n)) + 1 ≡ suc n
    by ih (yes e) = simp (eq-eqb n c e) (let a = all n (omega arith) in omega arith)
    by ih (no g) = simp (ne_eqb n c g) (let a = ih (omega arith) in let b = length-append (all_but c n) (n ∷ []) in omega arith)

but_most : (c n : ℕ) → length (all_but c n) ≤ n
unfolding all_but
but_most c zero = omega arith
but_most c (suc n) = by (eqb n c) (but_most c n)
  where
    by : (t : Bool) → length (all_but c n) ≤ n → length (cond t (all_but c n) (all_but c n ++ (n ∷ []))) ≤ suc n
    by true l = omega arith
    by false l = omega (arith, length-append (all_but c n) (n ∷ []))

-- what holds below n but at c holds of each
each_but : (P : ℕ → Type 0) (c n : ℕ) → ((g : ℕ) → g < n → (g ≡ c → ⊥) → P g) → Each P (all_but c n)
unfolding all_but
each_but P c zero h = tt
each_but P c (suc n) h = by (ℕ_discrete n c) (each_but P c n (λ g l. h g (omega arith)))
  where
    by : Dec (n ≡ c) → Each P (all_but c n) → Each P (cond (eqb n c) (all_but c n) (all_but c n ++ (n ∷ [])))
    by (yes s) e = simp (eq-eqb n c s) e
    by (no d) e = simp (ne_eqb n c d) (each_append P (all_but c n) (n ∷ []) e (h n (omega arith) d, tt))

module _ (bytes numbers : List ℕ) (c : ℕ) where
  pub others_none : (f : Other → ℕ) → sum_over f (others_of bytes numbers c 0) ≡ 0
  unfolding others_of all_but sum_over
  others_none f = refl

  pub others-more : (f : Other → ℕ) (n : ℕ) → (n ≡ c → ⊥)
      → sum_over f (others_of bytes numbers c (n + 1)) ≡ sum_over f (others_of bytes numbers c n) + f (other_of bytes (frame_at numbers n))
  unfolding others_of
  others-more f n g =
      sum-map f _ (all_but c (n + 1)) ∙ but_more _ c n g ∙ ap (λ (t : ℕ). t + f (other_of bytes (frame_at numbers n))) (sym (sum-map f _ (all_but c n)))

  pub others-centre : (f : Other → ℕ) (n : ℕ) → n ≡ c → sum_over f (others_of bytes numbers c (n + 1)) ≡ sum_over f (others_of bytes numbers c n)
  unfolding others_of
  others-centre f n e = sum-map f _ (all_but c (n + 1)) ∙ but_centre _ c n e ∙ sym (sum-map f _ (all_but c n))

  -- a sum over all n frames is that of the centre and that of the others
  pub split : (f : Other → ℕ) (n : ℕ) → c < n
      → sum_over (λ (g : Frame). f (other_of bytes g)) (list_of n (frame_at numbers)) ≡ f (other_of bytes (frame_at numbers c)) + sum_over f (others_of bytes numbers c n)
  unfolding others_of
  split f n h =
      sum-listed (λ (g : Frame). f (other_of bytes g)) (frame_at numbers) n
      ∙ but_split (λ g. f (other_of bytes (frame_at numbers g))) c n h
      ∙ ap (λ (t : ℕ). f (other_of bytes (frame_at numbers c)) + t) (sym (sum-map f _ (all_but c n)))

  pub others-count : (n : ℕ) → c < n → length (others_of bytes numbers c n) + 1 ≡ n
  unfolding others_of
  others-count n h = let e = length-map (all_but c n) (λ g. other_of bytes (frame_at numbers g)) in let a = but_count c n h in omega arith

  -- what holds of every frame below n but the centre holds of each
  pub others_each : (P : Other → Type 0) (n : ℕ) → ((g : ℕ) → g < n → (g ≡ c → ⊥) → P (other_of bytes (frame_at numbers g))) → Each P (others_of bytes numbers c n)
  unfolding others_of
  others_each P n h = each_of (all_but c n) (each_but (λ g. P (other_of bytes (frame_at numbers g))) c n h)
    where
      each_of : (gs : List ℕ) → Each (λ g. P (other_of bytes (frame_at numbers g))) gs → Each P (map (λ g. other_of bytes (frame_at numbers g)) gs)
      each_of [] e = tt
      each_of (g ∷ gs) e = (e.0, each_of gs e.1)

  -- a sum over them, where none adds more than m
  pub others-most : (f : Other → ℕ) (m n : ℕ) → ((g : ℕ) → f (other_of bytes (frame_at numbers g)) ≤ m) → sum_over f (others_of bytes numbers c n) ≤ n * m
  unfolding others_of
  others-most f m n h =
      rw (sum-map f (λ g. other_of bytes (frame_at numbers g)) (all_but c n))
      (let a = sum_over-most (λ g. f (other_of bytes (frame_at numbers g))) (all_but c n) m h in
      let b = mul-le-mul_right m (but_most c n) in
      let e = mul_comm m (length (all_but c n)) in
      omega arith)

-- two lists of other frames, of which as much is added frame by frame
pub others_same : (bytes numbers bytes' numbers' : List ℕ) (c n : ℕ) (f f' : Other → ℕ)
    → ((g : ℕ) → f (other_of bytes (frame_at numbers g)) ≡ f' (other_of bytes' (frame_at numbers' g)))
    → sum_over f (others_of bytes numbers c n) ≡ sum_over f' (others_of bytes' numbers' c n)
unfolding others_of
others_same bytes numbers bytes' numbers' c n f f' e =
    sum-map f _ (all_but c n) ∙ sum_over-same _ _ (all_but c n) e ∙ sym (sum-map f' _ (all_but c n))
