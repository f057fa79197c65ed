-- From the checks' outcome to the builder's: what is refused, and what an accepted call answers and leaves. Assumes nothing.
use Rattle.std.specs.Prelude.{Result, Ok, Err}
use Rattle.std.proofs.Common.{◌≡◌, refl, sym, ap, ◌∙◌, Bool, true, false, cond, List, [], ◌∷◌, ℕ, zero, suc, ◌<◌, arith, get_or}
use Rattle.laws.specs.Outcome.{Outcome, refused, accepted, Line, first_of, after}
use Rattle.laws.proofs.Outcome as laws
use Rattle.window.specs.declared.Size.{Size}
use Rattle.window.specs.declared.Refusal.{Refusal}
use Rattle.window.specs.declared.Refusal.TheVariants.{NoCentre, TooManyFrames, BadSize, OtherSize, CapTooHigh, PlaneUnfit, ShortOutput, ShortWorking}
use Rattle.window.specs.Layout.{packed_size}
use Rattle.window.specs.Frames.{frame_at, frame_count}
use Rattle.window.specs.Refusals.{build_lines, refusal_outcome, centre_of, checks, checked_outcome}
use Rattle.window.proofs.Built as window
use Rattle.denoiser.specs.declared.Built.{Built}
use Rattle.denoiser.specs.declared.Choice.{Choice}
use Rattle.denoiser.specs.Chroma.{rule_of}
use Rattle.denoiser.specs.Demand.{Held, Demand3}
use Rattle.denoiser.specs.Build.{BuildInput, given_of, scene_of, window_of, cropped, built_of, samples_of, outcome_of, output_after, working_after, BuildBy}
use Rattle.denoiser.specs.Internal.{Fits, Lent, Legal, Made, numbers_of}
use Rattle.denoiser.proofs.Blends.{window_fair, window-byte}
use Rattle.denoiser.proofs.Demands.{demand_3}

-- an outcome with another answer
retag : {A B : Type 0} → B → Outcome A → Outcome B
retag b (refused n v) = refused n v
retag b (accepted a) = accepted b

retag_lines : {A B : Type 0} (ls : List Line) (a : A) (b : B) → retag b (first_of ls a) ≡ first_of ls b
unfolding retag
retag_lines [] a b = refl
retag_lines {A} {B} (l ∷ ls) a b = by l.test (retag_lines ls a b)
  where
    by : (t : Bool) → retag b (first_of ls a) ≡ first_of ls b
        → retag b (cond t (refused l.number l.values) (first_of ls a)) ≡ cond t (refused l.number l.values) (first_of ls b)
    by true e = refl
    by false e = e

-- a refusal has a number and values, whatever an accepted call answers
record Refused (r : Refusal) : Type 0 where
  number : ℕ
  values : List ℕ
  sized : refusal_outcome {A = Size} r ≡ refused number values
  built : refusal_outcome {A = Built} r ≡ refused number values

refused_of : (r : Refusal) → Refused r
refused_of NoCentre = record { number = _; values = _; sized = refl; built = refl }
refused_of TooManyFrames = record { number = _; values = _; sized = refl; built = refl }
refused_of (BadSize s) = record { number = _; values = _; sized = refl; built = refl }
refused_of (OtherSize s c) = record { number = _; values = _; sized = refl; built = refl }
refused_of (CapTooHigh g) = record { number = _; values = _; sized = refl; built = refl }
refused_of (PlaneUnfit g) = record { number = _; values = _; sized = refl; built = refl }
refused_of ShortOutput = record { number = _; values = _; sized = refl; built = refl }
refused_of ShortWorking = record { number = _; values = _; sized = refl; built = refl }

retag_refusal : (r : Refusal) (b : Built) → retag b (refusal_outcome {A = Size} r) ≡ refusal_outcome {A = Built} r
unfolding retag
retag_refusal r b = let k = refused_of r in rw (k.sized, k.built) refl

-- on a refusal a slice is as before
after-refusal : (r : Refusal) (old new : List ℕ) → old ≡ after (refusal_outcome {A = Built} r) old new
after-refusal r old new = let k = refused_of r in rw k.built refl

never : (r : Refusal) (a : Built) → refusal_outcome {A = Built} r ≡ accepted a → ⊥
never r a e = let k = refused_of r in laws.never k.number k.values a (sym k.built ∙ e)

module _ (o : Choice) (b : BuildInput) where
  refused-outcome : (r : Refusal) → refusal_outcome r ≡ checks (given_of b) → refusal_outcome r ≡ outcome_of (rule_of o) b
  unfolding checks outcome_of
  refused-outcome r e =
      sym (retag_refusal r (built_of (rule_of o) b.request)) ∙ ap (retag (built_of (rule_of o) b.request)) e
      ∙ retag_lines (build_lines (given_of b)) _ (built_of (rule_of o) b.request)

  pub refused_is : (c : Result Size Refusal) (r : Refusal) → checked_outcome c ≡ checks (given_of b) → c ≡ Err r → BuildBy (rule_of o) b (Err r) b.lent
  unfolding output_after working_after
  refused_is c r e k =
      let e' = refused-outcome r (sym (ap checked_outcome k) ∙ e) in
      record {
        answer = e';
        slices =
            record {
              output = rw (sym e') (after-refusal r b.lent.output _);
              sums = rw (sym e') (after-refusal r b.lent.sums _);
              weights = rw (sym e') (after-refusal r b.lent.weights _);
              demand3 = λ a p t. absurd (never r a (e' ∙ p));
            };
      }

  module _ (c : Result Size Refusal) (s : Size) (e : checked_outcome c ≡ checks (given_of b)) (k : c ≡ Ok s) where
    facts : window.Built (given_of b) s
    facts = window.built (given_of b) s (sym e ∙ ap checked_outcome k)

    plane : (g p : ℕ) → g < frame_count b.request.numbers → p < 3 → Fits b.request.bytes (numbers_of (frame_at b.request.numbers g) p)
    plane g zero l m =
        let f = facts in
        record {
          fits = f.fits g zero l m;
          wide = (rw (f.width g l) f.wide, rw (f.width g l) f.narrow);
          high = (rw (f.height g l) f.high, rw (f.height g l) f.low);
        }
    plane g (suc p) l m =
        let f = facts in
        let w = f.width g l in
        let h = f.height g l in
        record { fits = f.fits g (suc p) l m; wide = omega (arith, w, f.wide, f.narrow); high = omega (arith, h, f.high, f.low) }

    pub legal : Legal b.request s.width s.height
    legal =
        let f = facts in
        record {
          inside = f.inside;
          few = f.few;
          frames = record { whole = λ g l. record { fits = λ p m. plane g p l m }; size = λ g l. (f.width g l, f.height g l) };
          wide = (f.wide, f.narrow);
          high = (f.high, f.low);
        }

    pub lent : Lent (packed_size s.width s.height) b.lent.output b.lent.sums b.lent.weights
    lent = let f = facts in record { in_out = f.output; in_sums = f.sums; in_weights = f.weights }

    done-outcome : accepted (built_of (rule_of o) b.request) ≡ outcome_of (rule_of o) b
    unfolding checks outcome_of retag
    done-outcome =
        ap (retag (built_of (rule_of o) b.request)) (sym (ap checked_outcome k) ∙ e) ∙ retag_lines (build_lines (given_of b)) _ (built_of (rule_of o) b.request)

    same-built : (n : ℕ) → n ≡ (built_of (rule_of o) b.request).accepted → ◌≡◌ {A = Built} (record { width = s.width; height = s.height; accepted = n }) (built_of (rule_of o) b.request)
    unfolding built_of scene_of
    same-built n p =
        let f = facts in
        ap (λ (t : Size). record { width = t.width; height = t.height; accepted = n }) f.size
        ∙ ap (λ (t : ℕ). record { width = (centre_of (given_of b)).width; height = (centre_of (given_of b)).height; accepted = t }) p

    module _ (n : ℕ) (held : Held) (made : Made (rule_of o) b.request b.lent n held) (byte : (i : ℕ) → get_or b.request.bytes i 0 < 256) where
      demand : cropped b.request ≡ false → Demand3 (rule_of o (scene_of b.request)) (window_of b.request) held
      unfolding samples_of window_of
      demand t =
          demand_3 (rule_of o (scene_of b.request)) (window_of b.request) (window_fair o b.request s.width s.height legal byte) (window-byte o b.request s.width s.height legal byte)
          b.lent held (rw t at made.output) (rw t at made.sums) (rw t at made.weights)

      pub done_is : BuildBy (rule_of o) b (Ok (record { width = s.width; height = s.height; accepted = n })) held
      unfolding output_after working_after
      done_is =
          let e' = done-outcome in
          record {
            answer = ap accepted (same-built n made.accepted) ∙ e';
            slices =
                record {
                  output = rw (sym e') made.output;
                  sums = rw (sym e') made.sums;
                  weights = rw (sym e') made.weights;
                  demand3 = λ a p t. demand t;
                };
          }
