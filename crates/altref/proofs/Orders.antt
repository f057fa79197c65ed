-- Frame order does not matter, of calls over records (request 11). Assumes nothing.
use Rattle.std.proofs.Common.{◌≡◌, refl, ap, ◌∙◌, sym, subst, List, [], ◌∷◌, ℕ, length, get_or, Result, Ok}
use Rattle.std.proofs.Math.Path.{fun_ext}
use mathlib.Core.List.{Perm, reverse_perm}
use Rattle.laws.specs.Front.{list_of}
use Rattle.laws.proofs.Front.{list_of-back}
use Rattle.window.specs.declared.Frame.{Frame}
use Rattle.window.specs.Frames.{frame_at, zero_frame}
use Rattle.window.specs.declared.Refusal.{Refusal}
use Rattle.denoiser.specs.declared.Built.{Built}
use Rattle.denoiser.specs.Window.{Other, Scene, Rule}
use Rattle.denoiser.specs.Demand.{Held}
use Rattle.denoiser.specs.Build.{asked, cropped, BuildBy, BuildHalf}
use Rattle.denoiser.specs.Order.{frame_list, SameFrames, SameBuild}
use Rattle.denoiser.proofs.Orders.{frame_order, order_half}
use Rattle.altref.specs.Records.{flat}
use Rattle.altref.proofs.ReadBack.{read_count, read_back}

-- the frame list of the records' numbers is the records
pub records-back : (bytes : List ℕ) (fs : List Frame) (i strength : ℕ) → frame_list (asked bytes (flat fs) i strength) ≡ fs
unfolding frame_list
records-back bytes fs i strength =
    ap (λ (n : ℕ). list_of n (frame_at (flat fs))) (read_count fs)
    ∙ ap (list_of (length fs)) (fun_ext (λ g. read_back fs g))
    ∙ list_of-back fs zero_frame

-- two lists that are permutations of each other, with equal records at the two centres, are the same frames
pub records-same : (bytes : List ℕ) (fs gs : List Frame) (i j strength : ℕ) → Perm fs gs → get_or fs i zero_frame ≡ get_or gs j zero_frame
    → SameFrames (asked bytes (flat fs) i strength) (asked bytes (flat gs) j strength)
records-same bytes fs gs i j strength p e =
    record {
      bytes = refl;
      strength = refl;
      centre = read_back fs i ∙ e ∙ sym (read_back gs j);
      frames =
          subst (λ (l : List Frame). Perm l (frame_list (asked bytes (flat gs) j strength))) (sym (records-back bytes fs i strength))
          (subst (λ (l : List Frame). Perm fs l) (sym (records-back bytes gs j strength)) p);
    }

-- so that two accepted calls on them, by one rule, give the same build
pub order_records : (rule : Scene → Rule Other) (bytes : List ℕ) (fs gs : List Frame) (i j strength : ℕ) (lent given : Held) (r s : Result Built Refusal) (held kept : Held)
    → BuildBy rule (record { request = asked bytes (flat fs) i strength; lent = lent }) r held
    → BuildBy rule (record { request = asked bytes (flat gs) j strength; lent = given }) s kept
    → Perm fs gs → get_or fs i zero_frame ≡ get_or gs j zero_frame → (x y : Built) → r ≡ Ok x → s ≡ Ok y
    → SameBuild (cropped (asked bytes (flat fs) i strength)) x y held kept
order_records rule bytes fs gs i j strength lent given r s held kept one other p e x y done also =
    frame_order rule _ _ r s held kept one other (records-same bytes fs gs i j strength p e) x y done also

-- how it is cited: two calls with half samples on three records, one of them twice, oldest first and nearest first
pub cited : (bytes : List ℕ) (f g : Frame) (strength : ℕ) (lent given : Held) (r s : Result Built Refusal) (held kept : Held)
    → BuildHalf (record { request = asked bytes (flat (f ∷ g ∷ g ∷ [])) 0 strength; lent = lent }) r held
    → BuildHalf (record { request = asked bytes (flat (g ∷ g ∷ f ∷ [])) 2 strength; lent = given }) s kept
    → (x y : Built) → r ≡ Ok x → s ≡ Ok y
    → SameBuild (cropped (asked bytes (flat (f ∷ g ∷ g ∷ [])) 0 strength)) x y held kept
cited bytes f g strength lent given r s held kept one other x y done also =
    order_half _ _ r s held kept one other (records-same bytes (f ∷ g ∷ g ∷ []) (g ∷ g ∷ f ∷ []) 0 2 strength (reverse_perm (g ∷ g ∷ f ∷ [])) refl) x y done also
