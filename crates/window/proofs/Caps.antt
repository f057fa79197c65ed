-- Where every cap is at most 16, the checks are document 01's. Assumes nothing.
use Rattle.std.proofs.Common.{◌≡◌, false, ◌||◌, List, [], ◌∷◌, ℕ, ◌≤◌, ◌<◌, arith, le-ltb, ltb, leb}
use Rattle.laws.specs.Outcome.{Line, line, first_of}
use Rattle.laws.proofs.First.{not_found}
use Rattle.prediction.specs.Refusals.{bad_side}
use Rattle.window.specs.Refusals.{Given, count_of, frame_of, centre_of, cap_too_high, first_other_sized, first_cap_too_high, first_unfit, samples_of, size_values, build_lines}

-- refusals 1 to 7 alone, as in document 01
abbrev pub plain_lines : Given → List Line
plain_lines c =
    line 1 (leb (count_of c) c.centre) []
    ∷ line 2 (ltb 1024 (count_of c)) []
    ∷ line 3 (bad_side (centre_of c).width || bad_side (centre_of c).height) (size_values (centre_of c) [])
    ∷ line 4 (ltb (first_other_sized c) (count_of c)) (size_values (frame_of c (first_other_sized c)) (size_values (centre_of c) []))
    ∷ line 5 (ltb (first_unfit c) (count_of c)) (first_unfit c ∷ [])
    ∷ line 6 (ltb c.output (samples_of c)) []
    ∷ line 7 (ltb c.sums (samples_of c) || ltb c.weights (samples_of c)) []
    ∷ []

module _ (c : Given) (caps : (g : ℕ) → g < count_of c → (frame_of c g).cap ≤ 16) where
  none_high : ltb (first_cap_too_high c) (count_of c) ≡ false
  unfolding first_cap_too_high
  none_high =
      let e = not_found (cap_too_high c) (count_of c) (count_of c) (λ g l. le-ltb 16 (frame_of c g).cap (caps g l)) (omega arith) (omega arith) in
      le-ltb (first_cap_too_high c) (count_of c) (omega (arith, e))

  -- 29 never applies, and the outcome is that of the seven lines
  pub no_29 : {A : Type 0} (a : A) → first_of (build_lines c) a ≡ first_of (plain_lines c) a
  no_29 a = simp none_high
