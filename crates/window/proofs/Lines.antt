-- The ways out of the checks: the first line that applies, after those that do not. Assumes nothing.
use Rattle.std.specs.Prelude.{◌≡◌, Bool, true, false, ◌||◌, [], ◌∷◌, ltb, leb}
use Rattle.laws.specs.Outcome.{refused, accepted}
use Rattle.prediction.specs.Refusals.{bad_side}
use Rattle.window.specs.Refusals.{Given, count_of, frame_of, centre_of, first_other_sized, first_cap_too_high, first_unfit, samples_of, size_values, size_of, checks}

-- the tests of the eight lines
abbrev pub test1 : Given → Bool
test1 c = leb (count_of c) c.centre

abbrev pub test2 : Given → Bool
test2 c = ltb 1024 (count_of c)

abbrev pub test3 : Given → Bool
test3 c = bad_side (centre_of c).width || bad_side (centre_of c).height

abbrev pub test4 : Given → Bool
test4 c = ltb (first_other_sized c) (count_of c)

abbrev pub test29 : Given → Bool
test29 c = ltb (first_cap_too_high c) (count_of c)

abbrev pub test5 : Given → Bool
test5 c = ltb (first_unfit c) (count_of c)

abbrev pub test6 : Given → Bool
test6 c = ltb c.output (samples_of c)

abbrev pub test7 : Given → Bool
test7 c = ltb c.sums (samples_of c) || ltb c.weights (samples_of c)

module _ (c : Given) where
  pub out1 : test1 c ≡ true → refused 1 [] ≡ checks c
  unfolding checks
  out1 e1 = simp e1

  pub out2 : test1 c ≡ false → test2 c ≡ true → refused 2 [] ≡ checks c
  unfolding checks
  out2 e1 e2 = simp (e1, e2)

  pub out3 : test1 c ≡ false → test2 c ≡ false → test3 c ≡ true → refused 3 (size_values (centre_of c) []) ≡ checks c
  unfolding checks
  out3 e1 e2 e3 = simp (e1, e2, e3)

-- the lines that an accepted size has passed
pub record Sized (c : Given) : Type 0 where
  pub not1 : test1 c ≡ false
  pub not2 : test2 c ≡ false
  pub not3 : test3 c ≡ false

module _ (c : Given) (s : Sized c) where
  pub out4 : test4 c ≡ true → refused 4 (size_values (frame_of c (first_other_sized c)) (size_values (centre_of c) [])) ≡ checks c
  unfolding checks
  out4 e4 = simp (s.not1, s.not2, s.not3, e4)

  pub out29 : test4 c ≡ false → test29 c ≡ true → refused 29 (first_cap_too_high c ∷ []) ≡ checks c
  unfolding checks
  out29 e4 e29 = simp (s.not1, s.not2, s.not3, e4, e29)

-- the lines that frames of one size, with caps of at most 16, have passed
pub record Capped (c : Given) : Type 0 where
  pub sized : Sized c
  pub not4 : test4 c ≡ false
  pub not29 : test29 c ≡ false

module _ (c : Given) (s : Capped c) where
  pub out5 : test5 c ≡ true → refused 5 (first_unfit c ∷ []) ≡ checks c
  unfolding checks
  out5 e5 = simp (s.sized.not1, s.sized.not2, s.sized.not3, s.not4, s.not29, e5)

  pub out6 : test5 c ≡ false → test6 c ≡ true → refused 6 [] ≡ checks c
  unfolding checks
  out6 e5 e6 = simp (s.sized.not1, s.sized.not2, s.sized.not3, s.not4, s.not29, e5, e6)

  pub out7 : test5 c ≡ false → test6 c ≡ false → test7 c ≡ true → refused 7 [] ≡ checks c
  unfolding checks
  out7 e5 e6 e7 = simp (s.sized.not1, s.sized.not2, s.sized.not3, s.not4, s.not29, e5, e6, e7)

  pub out8 : test5 c ≡ false → test6 c ≡ false → test7 c ≡ false → accepted (size_of (centre_of c)) ≡ checks c
  unfolding checks
  out8 e5 e6 e7 = simp (s.sized.not1, s.sized.not2, s.sized.not3, s.not4, s.not29, e5, e6, e7)
