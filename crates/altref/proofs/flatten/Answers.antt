-- `altref::flatten` meets its contract: a frame's numbers are copied to its place. Assumes nothing.
use Rattle.std.proofs.Common.{◌∙◌, ap, ℕ, List, ◌+◌, ◌*◌, ◌-◌, get_or, add-one, arith}
use Rattle.window.specs.Frames.{zero_frame}
use Rattle.altref.specs.Internal.{put_frame}
use Rattle.altref.proofs.Laws.{put_copied}
use Rattle.altref.proofs.flatten.Goals as goal

pub loop-i-preserved : goal.loop-i-preserved
loop-i-preserved c =
    let i = c.loop-i.i in
    let f = get_or c.args.frames.now i zero_frame in
    let copied = put_copied c.loop-i.numbers c.copy_from_slice.new.self i (i * 8 + 8 - i * 8) f (c.copy_from_slice.ensures.after ∙ c.numbers_of.ensures) (omega arith) (omega arith) in
    rw add-one (copied ∙ ap (λ (xs : List ℕ). put_frame xs i f) c.loop-i.invariant)
