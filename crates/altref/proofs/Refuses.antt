-- Of the numbers, refusals 1 and 2 look only at how many there are: what is promised where one of the two applies. Assumes nothing.
use Rattle.std.proofs.Common.{◌≡◌, refl, sym, ap, ◌∙◌, List, [], ℕ, ◌*◌, ◌≤◌, ◌<◌, arith, le-leb, lt-ltb, length, Err}
use Rattle.std.proofs.lemmas.Bool.{lt-leb}
use Rattle.laws.specs.Outcome.{Outcome, refused, after}
use Rattle.laws.proofs.Outcome.{never}
use Rattle.window.specs.declared.Refusal.{Refusal}
use Rattle.window.specs.declared.Refusal.TheVariants.{NoCentre, TooManyFrames}
use Rattle.window.specs.Frames.{numbers_per_frame, frame_count}
use Rattle.window.specs.Refusals.{refusal_outcome}
use Rattle.denoiser.specs.declared.Built.{Built}
use Rattle.denoiser.specs.Window.{Other, Scene, Rule}
use Rattle.denoiser.specs.Demand.{Held}
use Rattle.denoiser.specs.Build.{asked, BuildInput, BuildBy, outcome_of, output_after, working_after}
use Rattle.altref.specs.Internal.{max_frames}

unchanged : (o : Outcome Built) (n : ℕ) (v : List ℕ) (old new : List ℕ) → o ≡ refused n v → old ≡ after o old new
unchanged o n v old new e = ap (λ (p : Outcome Built). after p old new) (sym e)

-- the refusal that the definition gives, with no lent slice changed, is what is promised
refuses : (rule : Scene → Rule Other) (b : BuildInput) (x : Refusal) (n : ℕ) (v : List ℕ) → refusal_outcome {A = Built} x ≡ refused n v → outcome_of rule b ≡ refused n v → BuildBy rule b (Err x) b.lent
unfolding output_after working_after
refuses rule b x n v is e =
    record {
      answer = is ∙ sym e;
      slices =
          record {
            output = unchanged (outcome_of rule b) n v b.lent.output _ e;
            sums = unchanged (outcome_of rule b) n v b.lent.sums _ e;
            weights = unchanged (outcome_of rule b) n v b.lent.weights _ e;
            demand3 = λ a d. absurd (never n v a (sym e ∙ d));
          };
    }

-- the numbers of `count` frames are `count` frames
counted : (xs : List ℕ) (count : ℕ) → length xs ≡ count * numbers_per_frame → frame_count xs ≡ count
counted xs count e = omega (arith, e)

-- 1: the centre index is not below the count
pub no_centre : (rule : Scene → Rule Other) (bytes xs : List ℕ) (count centre strength : ℕ) (lent : Held) → length xs ≡ count * numbers_per_frame → count ≤ centre
    → BuildBy rule (record { request = asked bytes xs centre strength; lent = lent }) (Err NoCentre) lent
unfolding outcome_of
no_centre rule bytes xs count centre strength lent e h =
    refuses rule (record { request = asked bytes xs centre strength; lent = lent }) NoCentre 1 [] refl (simp (le-leb (frame_count xs) centre (omega (arith, counted xs count e, h))))

-- 2: it is, and the count exceeds 1024
pub too_many : (rule : Scene → Rule Other) (bytes xs : List ℕ) (count centre strength : ℕ) (lent : Held) → length xs ≡ count * numbers_per_frame → centre < count → max_frames < count
    → BuildBy rule (record { request = asked bytes xs centre strength; lent = lent }) (Err TooManyFrames) lent
unfolding outcome_of
too_many rule bytes xs count centre strength lent e h g =
    refuses rule (record { request = asked bytes xs centre strength; lent = lent }) TooManyFrames 2 []
    refl
    (simp (lt-leb (frame_count xs) centre (omega (arith, counted xs count e, h)), lt-ltb max_frames (frame_count xs) (omega (arith, counted xs count e, g))))
