-- `arnr::search::try_at` meets its contract. Assumes nothing.
use Rattle.std.proofs.Common.{◌≡◌, ap, ◌∙◌, ℕ, ◌<◌, ◌≤◌, min, arith}
use Rattle.laws.specs.Best.{better_of}
use Rattle.laws.proofs.Best.{cut-less, cut-not}
use Rattle.denoiser.specs.declared.Displacement.{Displacement}
use Rattle.denoiser.specs.declared.Motion.{Motion}
use Rattle.denoiser.specs.Internal.{Measured}
use Rattle.denoiser.proofs.Ceilings.{luma_read}
use Rattle.arnr.proofs.search.try_at.Goals as goal

module _ (cost : Displacement → ℕ) (best : Motion) (d : Displacement) (read : ℕ) (is : read ≡ min (cost d) best.sad) (known : best.sad ≡ cost best.displacement) where
  lesser : read ≡ min (cost d) (cost best.displacement)
  lesser = is ∙ ap (min (cost d)) known

  better : read < best.sad → Measured cost (better_of cost best.displacement d) (record { displacement = d; sad = read })
  better h =
      let e = cut-less cost best.displacement d read lesser (omega (arith, known)) in
      record { displacement = e.0; sad = e.1 ∙ ap cost e.0 }

  worse : best.sad ≤ read → Measured cost (better_of cost best.displacement d) best
  worse h =
      let e = cut-not cost best.displacement d read lesser (omega (arith, known)) in
      record { displacement = e; sad = known ∙ ap cost e }

pub returns-then-read-best : goal.returns-then-read-best
returns-then-read-best c =
    let s = c.before.before.before in
    better _ s.args.best s.args.d _ (luma_read _ _ _ _ _ _ _ c.block_sad-read.ensures) s.requires.sad_value c.if-read-best.true

pub returns-else-read-best : goal.returns-else-read-best
returns-else-read-best c =
    let s = c.before.before.before in
    worse _ s.args.best s.args.d _ (luma_read _ _ _ _ _ _ _ c.block_sad-read.ensures) s.requires.sad_value c.if-read-best.false
