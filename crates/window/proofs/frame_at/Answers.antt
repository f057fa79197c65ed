-- `window::frame_at` meets its contract. Assumes nothing.
use Rattle.std.proofs.Common.{rules, arith, ◌≡◌, ◌∙◌, sym}
use Rattle.std.proofs.lemmas.Bool.{lt-ltb}
use Rattle.std.proofs.lemmas.List.{take_rest, get_or-drop}
use Rattle.window.specs.Frames.{frame_count, number_at, zero_frame}
use Rattle.window.proofs.Frames.{frame_past}
use Rattle.window.proofs.frame_at.Goals as goal

pub returns-then-frame_count-g : goal.returns-then-frame_count-g
returns-then-frame_count-g c =
    let zeros : c.default.result ≡ zero_frame = search rules in
    zeros ∙ sym (frame_past c.args.numbers.now c.args.g (omega (arith, c.frame_count.ensures, c.if-frame_count-g.true)))

pub returns : goal.returns
unfolding number_at
returns c =
    let s = c.args in
    let inside = lt-ltb s.g (frame_count s.numbers.now) (omega arith) in
    simp (take_rest, get_or-drop, inside)
