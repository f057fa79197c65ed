-- `vp8model_sixtap_mb_luma` meets its contract: the wrapped call's, as numbers. Assumes nothing.
use Rattle.prediction.specs.Filter.{sixtap}
use Rattle.prediction.specs.Prediction.{filtered_mb}
use Rattle.filters.specs.Refusals.{filter_lines}
use Rattle.numbers.proofs.Filled.{filter_fills}
use Rattle.model.proofs.prediction_calls.vp8model_sixtap_mb_luma.Goals as goal

pub returns : goal.returns
returns c =
    let s = c.args in
    let made = c.sixtap_mb_luma in
    filter_fills (filter_lines s.mx s.my) (filtered_mb sixtap s.mx s.my s.halo.now) s.block.now _ _ _ 256 _ made.ensures
    c.store.ensures.status c.store.ensures.array
