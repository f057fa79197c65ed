-- What is known where the checks of a builder call refuse nothing. Assumes nothing.
use Rattle.std.proofs.Common.{◌≡◌, refl, sym, ap, ◌∙◌, false, not, ◌||◌, ℕ, zero, suc, ◌*◌, ◌≤◌, ◌<◌, mul-le-mul, arith, ltb-false, leb-false, eqb-true, ltb, eqb, length}
use Rattle.std.proofs.lemmas.Bool.{not-false}
use Rattle.std.specs.Prelude.{Result, Ok, Err}
use Rattle.laws.specs.Outcome.{accepted}
use Rattle.laws.proofs.Outcome.{skipped, answered, or_none}
use Rattle.laws.specs.First.{first_below}
use Rattle.laws.proofs.First.{is_first}
use Rattle.prediction.specs.Plane.{bytes_needed}
use Rattle.prediction.specs.Refusals.{bad_side}
use Rattle.fetch.proofs.Squares.{sized}
use Rattle.window.specs.declared.Size.{Size}
use Rattle.window.specs.declared.Refusal.{Refusal}
use Rattle.window.specs.Layout.{half, packed_size}
use Rattle.window.specs.Frames.{numbers_per_frame, plane_of}
use Rattle.window.specs.Refusals.{Given, count_of, frame_of, centre_of, other_sized, cap_too_high, plane_unfit}
use Rattle.window.specs.Refusals.{frame_unfit, first_other_sized, first_cap_too_high, first_unfit, build_lines, size_of, checks, checked_outcome, refusal_outcome}

pub record Built (c : Given) (s : Size) : Type 0 where
  pub inside : c.centre < count_of c
  pub few : count_of c ≤ 1024
  pub read : numbers_per_frame * count_of c ≤ length c.numbers
  pub size : s ≡ size_of (centre_of c)
  pub wide : 0 < s.width
  pub narrow : s.width ≤ 16383
  pub high : 0 < s.height
  pub low : s.height ≤ 16383
  pub width : (g : ℕ) → g < count_of c → (frame_of c g).width ≡ s.width
  pub height : (g : ℕ) → g < count_of c → (frame_of c g).height ≡ s.height
  pub caps : (g : ℕ) → g < count_of c → (frame_of c g).cap ≤ 16
  pub fits : (g k : ℕ) → g < count_of c → k < 3 → bytes_needed (plane_of c.bytes (frame_of c g) k) ≤ length c.bytes
  pub output : packed_size s.width s.height ≤ c.output
  pub sums : packed_size s.width s.height ≤ c.sums
  pub weights : packed_size s.width s.height ≤ c.weights

same_number : (a b : ℕ) → not (eqb a b) ≡ false → a ≡ b
same_number a b e = eqb-true a b (not-false (eqb a b) e)

-- a frame of which 4 does not speak
same_size : (c : Given) (g : ℕ) → other_sized c g ≡ false → ((frame_of c g).width ≡ (centre_of c).width) × ((frame_of c g).height ≡ (centre_of c).height)
same_size c g e =
    let p = or_none (not (eqb (frame_of c g).width (centre_of c).width)) (not (eqb (frame_of c g).height (centre_of c).height)) e in
    (same_number (frame_of c g).width (centre_of c).width p.0, same_number (frame_of c g).height (centre_of c).height p.1)

-- a frame of which 5 does not speak
plane-fits : (c : Given) (g k : ℕ) → frame_unfit c g ≡ false → k < 3 → bytes_needed (plane_of c.bytes (frame_of c g) k) ≤ length c.bytes
plane-fits c g k e h = ltb-false (length c.bytes) (bytes_needed (plane_of c.bytes (frame_of c g) k)) (passes k h)
  where
    first : (plane_unfit c g 0 ≡ false) × ((plane_unfit c g 1 || plane_unfit c g 2) ≡ false)
    first = or_none (plane_unfit c g 0) (plane_unfit c g 1 || plane_unfit c g 2) e

    rest : (plane_unfit c g 1 ≡ false) × (plane_unfit c g 2 ≡ false)
    rest = or_none (plane_unfit c g 1) (plane_unfit c g 2) first.1

    passes : (j : ℕ) → j < 3 → plane_unfit c g j ≡ false
    passes zero l = first.0
    passes (suc zero) l = rest.0
    passes (suc (suc zero)) l = rest.1
    passes (suc (suc (suc j))) l = absurd (omega arith)

pub built : (c : Given) (s : Size) → checks c ≡ accepted s → Built c s
unfolding checks first_other_sized first_cap_too_high first_unfit
built c s e =
    let t = skipped (build_lines c) (size_of (centre_of c)) s e in
    let size_is = answered (build_lines c) (size_of (centre_of c)) s e in
    let sides = or_none (bad_side (centre_of c).width) (bad_side (centre_of c).height) t.1.1.0 in
    let w = sized (centre_of c).width sides.0 in
    let h = sized (centre_of c).height sides.1 in
    let p = packed_size (centre_of c).width (centre_of c).height in
    let n = count_of c in
    let working = or_none (ltb c.sums p) (ltb c.weights p) t.1.1.1.1.1.1.1.0 in
    let other = ltb-false (first_below (other_sized c) n) n t.1.1.1.0 in
    let high = ltb-false (first_below (cap_too_high c) n) n t.1.1.1.1.0 in
    let unfit = ltb-false (first_below (frame_unfit c) n) n t.1.1.1.1.1.0 in
    rw (sym size_is)
    (record {
      inside = leb-false n c.centre t.0;
      few = ltb-false 1024 n t.1.0;
      read = omega arith;
      size = refl;
      wide = w.0;
      narrow = w.1;
      high = h.0;
      low = h.1;
      width = λ g l. (same_size c g ((is_first (other_sized c) n).none g (omega (arith, other)))).0;
      height = λ g l. (same_size c g ((is_first (other_sized c) n).none g (omega (arith, other)))).1;
      caps = λ g l. ltb-false 16 (frame_of c g).cap ((is_first (cap_too_high c) n).none g (omega (arith, high)));
      fits = λ g k l m. plane-fits c g k ((is_first (frame_unfit c) n).none g (omega (arith, unfit))) m;
      output = ltb-false c.output p t.1.1.1.1.1.1.0;
      sums = ltb-false c.sums p working.0;
      weights = ltb-false c.weights p working.1;
    })

-- what a caller knows of each answer of `check_build`
pub legal : (c : Given) (r : Result Size Refusal) (s : Size) → checked_outcome r ≡ checks c → r ≡ Ok s → Built c s
legal c r s e l = built c s (sym e ∙ ap checked_outcome l)

pub refused_is : (c : Given) (r : Result Size Refusal) (why : Refusal) → checked_outcome r ≡ checks c → r ≡ Err why → checks c ≡ refusal_outcome why
refused_is c r why e l = sym e ∙ ap checked_outcome l

-- P of a legal size is at most 402620417
pub samples-most : (w h : ℕ) → w ≤ 16383 → h ≤ 16383 → packed_size w h ≤ 402620417
samples-most w h a b =
    let luma : w * h ≤ 16383 * 16383 = mul-le-mul a b in
    let x : half w ≤ 8192 = omega arith in
    let y : half h ≤ 8192 = omega arith in
    let chroma : half w * half h ≤ 8192 * 8192 = mul-le-mul x y in
    omega arith
