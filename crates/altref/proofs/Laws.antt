-- What the array of numbers holds: it begins with the numbers of the frames that are taken. Assumes nothing.
use Rattle.std.proofs.Common.{◌≡◌, refl, sym, ap, ◌∙◌, Bool, cond, List, [], ◌∷◌, ◌++◌, ℕ, zero, suc, ◌+◌, ◌*◌, ◌≤◌, arith, le_refl, le-leb, length, take, drop, set, get_or, length-append, take_at, take-suc, length-take-le}
use Rattle.std.proofs.Math.Seq.{length-sets, take-length}
use Rattle.std.proofs.lemmas.List.{length-replicate}
use Rattle.std.proofs.lemmas.List.Edits.{sets, sets-eq}
use Rattle.std.proofs.Common.{append_assoc, drop-drop, subst, get_or-take}
use borrow.Rule.Slice.PartMut.{put_mid}
use Rattle.std.proofs.lemmas.Bool.Decides.{nat_tests}
use Rattle.window.specs.declared.Frame.{Frame}
use Rattle.window.specs.Frames.{numbers_per_frame, zero_frame}
use Rattle.altref.specs.Records.{numbers_of, flat}
use Rattle.altref.specs.Internal.{max_frames, array_size, put_at, put_frame, filled, taken_of, Begins}

-- numbers put one by one are set as a list
put_sets : (ns xs : List ℕ) (k : ℕ) → put_at xs k ns ≡ sets xs k ns
put_sets [] xs k = refl
put_sets (n ∷ ns) xs k = ap (λ (j : ℕ). put_at (set xs k n) j ns) next ∙ put_sets ns (set xs k n) (suc k)
  where
    next : k + 1 ≡ suc k
    next = omega arith

-- the numbers of a frame, copied over the eight at its place
pub put_copied : (xs ys : List ℕ) (i k : ℕ) (f : Frame) → ys ≡ numbers_of f → k ≡ numbers_per_frame → i * numbers_per_frame + numbers_per_frame ≤ length xs
    → put_mid (i * numbers_per_frame) k xs ys ≡ put_frame xs i f
put_copied xs ys i k f e q room =
    let at : ℕ = i * numbers_per_frame in
    rw (e, q)
    (ap (λ (l : List ℕ). take at xs ++ (numbers_of f ++ l)) (drop-drop numbers_per_frame at xs)
    ∙ sym (append_assoc (take at xs) (numbers_of f) (drop (at + numbers_per_frame) xs)) ∙ sym (put_sets (numbers_of f) xs at ∙ sets-eq (numbers_of f) xs at room))

length-filled : (fs : List Frame) (i : ℕ) → length (filled fs i) ≡ array_size
length-filled fs zero = length-replicate {A = ℕ} array_size 0
length-filled fs (suc i) =
    let ns : List ℕ = numbers_of (get_or fs i zero_frame) in
    ap length (put_sets ns (filled fs i) (i * numbers_per_frame)) ∙ length-sets (filled fs i) (i * numbers_per_frame) ns ∙ length-filled fs i

flat_append : (fs gs : List Frame) → flat (fs ++ gs) ≡ flat fs ++ flat gs
flat_append [] gs = refl
flat_append (f ∷ fs) gs = ap (λ (l : List ℕ). numbers_of f ++ l) (flat_append fs gs)

pub length-flat : (fs : List Frame) → length (flat fs) ≡ length fs * numbers_per_frame
length-flat [] = refl
length-flat (f ∷ fs) = omega (arith, length-flat fs)

-- the first i frames' numbers stand first
first-filled : (fs : List Frame) (i : ℕ) → i ≤ length fs → i ≤ max_frames → take (i * numbers_per_frame) (filled fs i) ≡ flat (take i fs)
first-filled fs zero h few = refl
first-filled fs (suc i) h few =
    let f : Frame = get_or fs i zero_frame in
    let l : List ℕ = filled fs i in
    let at : ℕ = i * numbers_per_frame in
    let room : at + numbers_per_frame ≤ length l = omega (arith, few, length-filled fs i) in
    let long : length (take at l) + numbers_per_frame ≡ suc i * numbers_per_frame = omega (arith, length-take-le at l (omega (arith, room))) in
    ap (take (suc i * numbers_per_frame)) (put_sets (numbers_of f) l at ∙ sets-eq (numbers_of f) l at room)
    ∙ take_at (take at l ++ numbers_of f) (drop (at + numbers_per_frame) l) (suc i * numbers_per_frame) (length-append (take at l) (numbers_of f) ∙ long)
    ∙ ap (λ (k : List ℕ). k ++ numbers_of f) (first-filled fs i (omega (arith, h)) (omega (arith, few)))
    ∙ sym (flat_append (take i fs) (f ∷ []))
    ∙ ap flat (sym (take-suc fs i zero_frame h))

-- the array that the builder hands on begins with the frames' numbers
pub begins : (fs : List Frame) → Begins (flat fs) (filled fs (taken_of (length fs))) (length fs)
begins fs = (
  length-flat fs,
  λ few. ap (λ (y : Bool). take (length fs * numbers_per_frame) (filled fs (cond y (length fs) 0))) (le-leb (length fs) max_frames few)
      ∙ first-filled fs (length fs) (le_refl (length fs)) few
      ∙ ap flat (take-length fs),
)

-- what is taken is there
taken_there : (m : ℕ) → taken_of m ≤ m
taken_there m = grind (arith, nat_tests)

-- of the frames that are taken, as of all of them
filled-take : (fs : List Frame) (n i : ℕ) → i ≤ n → filled (take n fs) i ≡ filled fs i
filled-take fs n zero h = refl
filled-take fs n (suc i) h =
    ap (λ (xs : List ℕ). put_frame xs i (get_or (take n fs) i zero_frame)) (filled-take fs n i (omega arith))
    ∙ ap (put_frame (filled fs i) i) (get_or-take n fs i zero_frame (omega arith))

pub array_begins : (fs : List Frame) (n : ℕ) (xs : List ℕ) → n ≡ taken_of (length fs) → xs ≡ filled (take n fs) (length (take n fs)) → Begins (flat fs) xs (length fs)
array_begins fs n xs e q =
    let there : n ≤ length fs = omega (arith, taken_there (length fs)) in
    let is : xs ≡ filled fs (taken_of (length fs)) =
    q ∙ ap (filled (take n fs)) (length-take-le n fs there) ∙ filled-take fs n n (le_refl n) ∙ ap (filled fs) e
    in
    subst (λ (l : List ℕ). Begins (flat fs) l (length fs)) (sym is) (begins fs)
