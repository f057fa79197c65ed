-- `arnr::build::crop` meets its contract. The loop's invariant: the first k planes are copied. Assumes nothing.
use Rattle.std.proofs.Common.{◌≡◌, ◌∙◌, refl, List, ℕ, zero, suc, ◌+◌, ◌<◌, get_or, arith, not-suc-le-zero}
use native.Mathlib.Decide.{ℕ_discrete}
use Rattle.window.specs.Layout.{half, side_of, offset_of, place_of}
use Rattle.denoiser.specs.Pictures.{picture_of}
use Rattle.denoiser.specs.Internal.{Stored}
use Rattle.denoiser.proofs.Planes.{below_end}
use Rattle.arnr.proofs.build.crop.Goals as goal

-- a plane ends where the next one starts, or before it
earlier : (w h j k x y : ℕ) → j < k → k < 3 → x < side_of j w → y < side_of j h → place_of w h j x y < offset_of k w h
earlier w h zero zero x y hj hk hx hy = absurd (omega arith)
earlier w h zero (suc zero) x y hj hk hx hy = omega (arith, below_end w h x y hx hy)
earlier w h zero (suc (suc k)) x y hj hk hx hy = omega (arith, below_end w h x y hx hy)
earlier w h (suc zero) zero x y hj hk hx hy = absurd (omega arith)
earlier w h (suc zero) (suc zero) x y hj hk hx hy = absurd (omega arith)
earlier w h (suc zero) (suc (suc k)) x y hj hk hx hy = omega (arith, below_end (half w) (half h) x y hx hy)
earlier w h (suc (suc j)) k x y hj hk hx hy = absurd (omega arith)

-- one plane more
module _ (w h k : ℕ) (f : ℕ → ℕ → ℕ → ℕ) {old now : List ℕ} (less : k < 3)
    (there : (j x y : ℕ) → j < k → x < side_of j w → y < side_of j h → get_or old (place_of w h j x y) 0 ≡ f j x y)
    (s : Stored (offset_of k w h) (side_of k w) (side_of k h) (f k) old now) where
  planes_more : (j x y : ℕ) → j < k + 1 → x < side_of j w → y < side_of j h → get_or now (place_of w h j x y) 0 ≡ f j x y
  planes_more j x y hj hx hy = by (ℕ_discrete j k)
    where
      by : Dec (j ≡ k) → get_or now (place_of w h j x y) 0 ≡ f j x y
      by (yes e) = rw e (s.inside x y (rw (← e) hx) (rw (← e) hy))
      by (no g) =
          let hj : j < k = omega arith in
          s.before _ (earlier w h j k x y hj less hx hy) ∙ there j x y hj hx hy

pub loop-k-init : goal.loop-k-init
loop-k-init c = (refl, λ j x y hj. absurd (not-suc-le-zero hj))

pub loop-k-preserved : goal.loop-k-preserved
unfolding picture_of
loop-k-preserved c =
    let done = simp (c.plane_of.ensures, c.offset_of-at.ensures) at c.crop_plane.ensures in
    (done.long ∙ c.loop-k.invariant.0, planes_more c.args.f.width c.args.f.height c.loop-k.k _ c.loop-k-test.true c.loop-k.invariant.1 done)

pub returns : goal.returns
returns c = record { out_len_unchanged = c.loop-k.invariant.0; shows = record { at = λ k x y hk. c.loop-k.invariant.1 k x y (omega arith) } }
