-- `inside_row` meets its contract: a part of a row of the plane is a row of the square. Assumes nothing.
use Rattle.std.proofs.Common.{ℕ, List, ◌+◌, ◌-◌, ◌*◌, get_or, arith, ap, ◌∙◌}
use Rattle.std.proofs.lemmas.List.Edits.{length-between, get_or-between}
use Rattle.fetch.proofs.Squares.{rows_fit, fill_part, part-fits, inside-sample}
use Rattle.fetch.proofs.Square.inside_row.Goals as goal

pub returns : goal.returns
returns g c =
    let n = g.row.N in
    let s = c.args.self.now in
    let r = c.args.r in
    let from = (s.y - s.bias + r) * s.stride + (s.x - s.bias) in
    let long = length-between s.samples.now from (from + n) (part-fits s r c.requires.r_lt_n c.requires.inside) in
    let copied = c.copy_from_slice-2.ensures.after ∙ c.copy_from_slice.ensures.after in
    fill_part n _ _ c.requires.filling (rows_fit n r c.requires.r_lt_n) (omega arith) (omega arith)
    (λ j h. ap (λ (l : List ℕ). get_or l j 0) copied ∙ get_or-between s.samples.now from (from + n) j 0 (omega arith) ∙ inside-sample s r c.requires.r_lt_n c.requires.inside j h)
