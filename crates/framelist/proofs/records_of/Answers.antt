-- `framelist::records_of` meets its contract: before the first frame all records are zeros. Assumes nothing.
use Rattle.std.proofs.Common.{rules, arith, ◌≡◌, ◌∙◌}
use Rattle.std.proofs.Math.ListN.{length-replicate, get_or-replicate}
use Rattle.window.specs.declared.Frame.{Frame}
use Rattle.window.specs.Frames.{zero_frame}
use Rattle.framelist.specs.Lists.{array_records}
use Rattle.framelist.proofs.records_of.Goals as goal

pub loop-g-init : goal.loop-g-init
loop-g-init c =
    let are_zeros : c.default-zeros.result ≡ zero_frame = search rules in
    record {
      long = length-replicate {A = Frame} array_records c.default-zeros.result;
      at = λ g h. absurd (omega (arith, h));
      past = λ g h k. get_or-replicate {A = Frame} array_records g c.default-zeros.result zero_frame k ∙ are_zeros;
    }
