-- Pictures of frames and of packed lists, and what a frame adds by them. Assumes nothing.
use Rattle.std.proofs.Common.{◌≡◌, refl, sym, ap, ◌∙◌, List, ℕ, ◌*◌, ◌/◌, ◌≤◌, ◌<◌, min, arith, ℤ, pos, get_or}
use Rattle.std.proofs.Math.Decide.{dec_lt}
use Rattle.std.proofs.Math.ListN.{get_or-eq_default}
use Rattle.laws.specs.Tabulate.{tabulate}
use Rattle.laws.proofs.Tabulate.{length-tabulate, get_d_tabulate}
use Rattle.window.specs.declared.Frame.{Frame}
use Rattle.window.specs.Frames.{plane_of}
use Rattle.denoiser.specs.Grid.{unit_of}
use Rattle.denoiser.specs.declared.Choice.{Choice}
use Rattle.denoiser.specs.Window.{Picture, Other, Scene, gate, share_of, displacement_of}
use Rattle.denoiser.specs.Chroma.{sample_in, chosen_sample, chosen_accepts}
use Rattle.denoiser.specs.Pictures.{picture_of}
use Rattle.denoiser.specs.Internal.{Light, share_by, term_by, curve_rule, curve_share, curve_term, capped_curve, other_share, other_term}
use Rattle.denoiser.proofs.Gates.{gate-most, gate_times}
use Rattle.denoiser.proofs.Halves.{sample_in-byte}
use Rattle.denoiser.proofs.Place.{share-most, term_most}
use Rattle.denoiser.proofs.Planes.{sample-byte}

-- every sample of a picture is a byte
pub picture-byte : (bytes : List ℕ) (f : Frame) → ((i : ℕ) → get_or bytes i 0 < 256) → (k : ℕ) (x y : ℤ) → picture_of bytes f k x y ≤ 255
unfolding picture_of
picture-byte bytes f byte k x y = sample-byte (plane_of bytes f k) byte x y

-- what a frame adds at (x, y): by the block that covers it
module _ (o : Choice) (curve : List ℕ) (s : Scene) (f : Picture) (k x y : ℕ) where
  pub share-at : curve_share o curve s f k x y
      ≡ gate (chosen_accepts o s f (y / unit_of k) (x / unit_of k)) (share_by curve (s.centre k) (sample_in o.half_sample k (displacement_of s f (y / unit_of k) (x / unit_of k)) (f k)) x y)
  unfolding curve_share share_of curve_rule chosen_sample share_by
  share-at = refl

  pub term_at : curve_term o curve s f k x y
      ≡ gate (chosen_accepts o s f (y / unit_of k) (x / unit_of k)) (term_by curve (s.centre k) (sample_in o.half_sample k (displacement_of s f (y / unit_of k) (x / unit_of k)) (f k)) x y)
  unfolding curve_term chosen_sample term_by
  term_at =
      ap (λ (t : ℕ). t * sample_in o.half_sample k (displacement_of s f (y / unit_of k) (x / unit_of k)) (f k) (pos x) (pos y)) share-at ∙ sym (gate_times _ _ _)

  pub share_light : Light curve → curve_share o curve s f k x y ≤ 16
  share_light light = rw share-at (gate-most _ _ 16 (share-most curve _ _ light x y))

  pub term_light : Light curve → ((a b : ℤ) → f k a b ≤ 255) → curve_term o curve s f k x y ≤ 4080
  term_light light byte = rw term_at (gate-most _ _ 4080 (term_most curve _ _ light x y (sample_in-byte o.half_sample k _ (f k) byte _ _)))

-- a curve cut at a cap is as light as the curve
pub capped_light : (curve : List ℕ) (cap : ℕ) → Light curve → Light (capped_curve curve cap)
unfolding capped_curve
capped_light curve cap light e = by (dec_lt e 256)
  where
    by : Dec (e < 256) → get_or (tabulate 256 (λ d. min cap (get_or curve d 0))) e 0 ≤ 16
    by (yes l) = rw (get_d_tabulate 256 (λ d. min cap (get_or curve d 0)) e 0 l) (let m = light e in omega arith)
    by (no g) =
        let n = length-tabulate 256 (λ d. min cap (get_or curve d 0)) in
        rw (get_or-eq_default (tabulate 256 (λ d. min cap (get_or curve d 0))) 0 {n = e} (omega arith)) (omega arith)

-- what another frame adds, by its cut curve
module _ (o : Choice) (curve : List ℕ) (s : Scene) (f : Other) (k x y : ℕ) (light : Light curve) where
  pub other_share_light : other_share o curve s f k x y ≤ 16
  unfolding other_share
  other_share_light = share_light o (capped_curve curve f.cap) s f.picture k x y (capped_light curve f.cap light)

  pub other_term_light : ((a b : ℤ) → f.picture k a b ≤ 255) → other_term o curve s f k x y ≤ 4080
  unfolding other_term
  other_term_light byte = term_light o (capped_curve curve f.cap) s f.picture k x y (capped_light curve f.cap light) byte
