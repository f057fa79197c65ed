-- `source_block` meets its contract. Assumes nothing.
use Rattle.std.proofs.Common.{ap, ◌∙◌}
use Rattle.prediction.specs.Refusals.{block_of}
use Rattle.search.proofs.Pictures.{fetch_accepted}
use Rattle.picture_search.specs.Internal.{source_of}
use Rattle.picture_search.proofs.source_block.Goals as goal

pub returns : goal.returns
returns c =
    let a = c.args in
    c.fetch_luma_mb_whole_pixel.ensures.beside
    ∙ ap (block_of 256) (fetch_accepted (source_of a.p) a.column a.row c.requires.size c.requires.long c.requires.place)
