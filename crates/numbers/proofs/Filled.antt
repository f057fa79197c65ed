-- Calls that fill an array: where one is accepted the block is stored, where it is refused the array is kept. Assumes nothing.
use Rattle.std.specs.Prelude.{◌≡◌, List, [], ℕ, Result, Ok, Err, ⊤}
use Rattle.std.proofs.Common.{refl, sym, ap, ◌∙◌}
use Rattle.laws.specs.Outcome.{Outcome, refused, accepted, Line, first_of, after}
use Rattle.laws.proofs.Outcome.{answered}
use Rattle.fetch.specs.declared.FetchRefusal.{FetchRefusal}
use Rattle.fetch.specs.declared.FetchRefusal.TheVariants.{BadSize, ShortPlane, BadOrigin}
use Rattle.fetch.specs.Refusals.{fetch_outcome, FillIs}
use Rattle.fetch.proofs.Squares.{fetched}
use Rattle.filters.specs.declared.BadSelector.{BadSelector}
use Rattle.filters.specs.Refusals.{filter_outcome, FilterIs}
use Rattle.numbers.specs.declared.answers.Status.{Status}
use Rattle.numbers.specs.Answers.{number_of, status_numbers, Fills}

module _ (lines : List Line) (block old : List ℕ) where
  pub stored : (made : List ℕ) → accepted made ≡ first_of lines block → Fills lines block old (record { refusal = 0 }) made
  stored made e =
      record {
        status = ap (λ (o : Outcome (List ℕ)). status_numbers o) e;
        array = sym (answered lines block made (sym e)) ∙ ap (λ (o : Outcome (List ℕ)). after o old block) e;
      }

  pub kept : (k : ℕ) (v : List ℕ) → refused k v ≡ first_of lines block → Fills lines block old (record { refusal = k }) old
  kept k v e =
      record {
        status = ap (λ (o : Outcome (List ℕ)). status_numbers o) e;
        array = ap (λ (o : Outcome (List ℕ)). after o old block) e;
      }

-- a filter's block: stored where it is filtered, else the array is kept
module _ (lines : List Line) (block old made : List ℕ) (a : Result ⊤ BadSelector) (n : ℕ) (f : FilterIs (first_of lines block) n a made) where
  pub filter_stored : a ≡ Ok tt → Fills lines block old (record { refusal = 0 }) made
  filter_stored e = stored lines block old made (sym (ap (λ (x : Result ⊤ BadSelector). filter_outcome x made) e) ∙ f.outcome)

  pub filter-kept : (s : BadSelector) → a ≡ Err s → Fills lines block old (record { refusal = 13 }) old
  filter-kept s e = kept lines block old 13 [] (sym (ap (λ (x : Result ⊤ BadSelector). filter_outcome x made) e) ∙ f.outcome)

pub filter_fills : (lines : List Line) (block old made held : List ℕ) (a : Result ⊤ BadSelector) (n : ℕ) (r : Status)
    → FilterIs (first_of lines block) n a made → r ≡ status_numbers (filter_outcome a made) → held ≡ after (filter_outcome a made) old made
    → Fills lines block old r held
filter_fills lines block old made held (Ok tt) n r f e h = rw (e, h) (filter_stored lines block old made (Ok tt) n f refl)
filter_fills lines block old made held (Err s) n r f e h = rw (e, h) (filter-kept lines block old made (Err s) n f s refl)

-- a fetch into the array itself
same_number : (a : Result ⊤ FetchRefusal) (held : List ℕ) → number_of (fetch_outcome a []) ≡ number_of (fetch_outcome a held)
same_number (Ok t) held = refl
same_number (Err BadSize) held = refl
same_number (Err ShortPlane) held = refl
same_number (Err BadOrigin) held = refl

module _ (lines : List Line) (block old held : List ℕ) (a : Result ⊤ FetchRefusal) (f : FillIs (first_of lines block) a old held) where
  array_of : (o : Outcome (List ℕ)) → first_of lines block ≡ o → fetch_outcome a held ≡ o → held ≡ after o old held → held ≡ after o old block
  array_of (refused k v) p e h = h
  array_of (accepted b) p e h = fetched a held b e ∙ sym (answered lines block b p)

  pub fetch_fills : (n : ℕ) → n ≡ number_of (fetch_outcome a []) → Fills lines block old (record { refusal = n }) held
  fetch_fills n e =
      record {
        status = ap (λ (k : ℕ). record { refusal = k }) (e ∙ same_number a held ∙ ap (λ (o : Outcome (List ℕ)). number_of o) f.outcome);
        array = array_of (first_of lines block) refl f.outcome f.kept;
      }
