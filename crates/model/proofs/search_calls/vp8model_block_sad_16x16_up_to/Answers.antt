-- `vp8model_block_sad_16x16_up_to` meets its contract. Assumes nothing.
use Rattle.std.proofs.Common.{◌≡◌, ◌∙◌, ℕ}
use Rattle.prediction.specs.declared.ceiling.Ceiled.{Ceiled}
use Rattle.numbers.specs.Answers.{ceiled_numbers}
use Rattle.model.proofs.search_calls.vp8model_block_sad_16x16_up_to.Goals as goal

same_numbers : (r : Ceiled) (sad rows : ℕ) → r.sad ≡ sad → r.rows ≡ rows → ceiled_numbers r ≡ ceiled_numbers (record { sad = sad; rows = rows })
same_numbers r sad rows p q = rw (p, q)

pub returns : goal.returns
returns c =
    let e = c.block_sad_16x16_up_to-read in
    c.ceiled_numbers.ensures ∙ same_numbers e.result _ _ e.ensures.sad e.ensures.rows
