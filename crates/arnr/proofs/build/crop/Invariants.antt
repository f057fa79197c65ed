-- `arnr::build::crop` meets its contract. The loop's invariant: the first k planes are copied. Assumes nothing.
use Rattle.std.specs.Prelude.{◌≡◌, ℕ, ◌<◌, pos, length, get_or}
use Rattle.window.specs.Layout.{side_of, place_of}
use Rattle.denoiser.specs.Pictures.{picture_of}
use Rattle.arnr.proofs.build.crop.Given as goal

abbrev pub invariant-loop-k : goal.invariant-loop-k
invariant-loop-k l =
    (length l.out ≡ length l.initial.out)
    × ((j x y : ℕ) → j < l.k → x < side_of j l.f.width → y < side_of j l.f.height → get_or l.out (place_of l.f.width l.f.height j x y) 0 ≡ picture_of l.bytes l.f j (pos x) (pos y))
