-- What an accepted call leaves, from what its parts leave in the first P entries of the slices. Assumes nothing.
use Rattle.std.proofs.Common.{◌≡◌, refl, ◌∙◌, subst, Bool, true, false, ◌||◌, List, ◌++◌, ℕ, eqb, pos, length, drop, drop_at, eq-eqb, ne_eqb}
use Rattle.window.specs.Layout.{packed_size}
use Rattle.window.specs.Frames.{frame_at, frame_count}
use Rattle.denoiser.specs.Window.{Other, Scene, Rule, centre_at}
use Rattle.denoiser.specs.Pictures.{picture_of}
use Rattle.denoiser.specs.Demand.{Held}
use Rattle.denoiser.specs.Build.{Request, scene_of, cropped, packed, filled, built_of, samples_of}
use Rattle.denoiser.specs.Internal.{Shows, Legal, Blended, Made}
use Rattle.denoiser.proofs.Packs.{shows_is}

-- when the centre is only cropped
pub crops_one : (q : Request) → frame_count q.numbers ≡ 1 → cropped q ≡ true
unfolding cropped
crops_one q e = rw (eq-eqb (frame_count q.numbers) 1 e)

pub crops_none : (q : Request) → q.strength ≡ 0 → cropped q ≡ true
unfolding cropped
crops_none q e = rw (eq-eqb q.strength 0 e) (or-true (eqb (frame_count q.numbers) 1))
  where
    or-true : (t : Bool) → (t || true) ≡ true
    or-true true = refl
    or-true false = refl

pub crops_not : (q : Request) → (frame_count q.numbers ≡ 1 → ⊥) → (q.strength ≡ 0 → ⊥) → cropped q ≡ false
unfolding cropped
crops_not q f g = rw (ne_eqb (frame_count q.numbers) 1 f, ne_eqb q.strength 0 g)

module _ (rule : Scene → Rule Other) (q : Request) (w h : ℕ) (legal : Legal q w h) (n : ℕ) (n-is : n ≡ packed_size w h) where
  -- P entries of f in front of the rest
  pub filled_is : (f : ℕ → ℕ → ℕ → ℕ) (new old : List ℕ) → new ≡ packed w h f → new ++ drop n old ≡ filled (scene_of q) f old
  unfolding filled scene_of
  filled_is f new old e =
      let size = legal.frames.size q.centre legal.inside in
      rw (size.0, size.1, n-is, e)

  -- the cropped centre
  pub centre_shows : (l : List ℕ) → Shows (frame_at q.numbers q.centre).width (frame_at q.numbers q.centre).height (λ k x y. picture_of q.bytes (frame_at q.numbers q.centre) k (pos x) (pos y)) l
      → Shows w h (centre_at (scene_of q)) l
  unfolding scene_of
  centre_shows l s =
      let size = legal.frames.size q.centre legal.inside in
      subst (λ (t : ℕ). Shows w t (centre_at (scene_of q)) l) size.1 (subst (λ (t : ℕ). Shows t (frame_at q.numbers q.centre).height (centre_at (scene_of q)) l) size.0 s)

  pub made-cropped : (lent : Held) (new : List ℕ) → length new ≡ n → Shows w h (centre_at (scene_of q)) new → cropped q ≡ true
      → Made rule q lent 0 (record { output = new ++ drop n lent.output; sums = lent.sums; weights = lent.weights })
  unfolding built_of samples_of
  made-cropped lent new long s t =
      record {
        accepted = rw t;
        output = rw t (filled_is (centre_at (scene_of q)) new lent.output (shows_is w h (centre_at (scene_of q)) new legal.wide.0 (long ∙ n-is) s));
        sums = rw t;
        weights = rw t;
      }

  pub made_blended : (lent : Held) (new : List ℕ) (count : ℕ) (held : Held) → length new ≡ n → Blended rule q w h count held → cropped q ≡ false
      → Made rule q lent count (record { output = held.output ++ drop n (new ++ drop n lent.output); sums = held.sums ++ drop n lent.sums; weights = held.weights ++ drop n lent.weights })
  unfolding built_of samples_of
  made_blended lent new count held long b t =
      record {
        accepted = rw t b.accepted;
        output = rw (t, drop_at new (drop n lent.output) n long) (filled_is _ held.output lent.output b.output);
        sums = rw t (filled_is _ held.sums lent.sums b.sums);
        weights = rw t (filled_is _ held.weights lent.weights b.weights);
      }
