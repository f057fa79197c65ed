-- `arnr::accumulate::filtered` meets its contract. Assumes nothing.
use Rattle.denoiser.specs.Pictures.{picture_of}
use Rattle.denoiser.proofs.Planes.{block-fits}
use Rattle.std.proofs.Common.{arith}
use Rattle.arnr.proofs.accumulate.filtered.Goals as goal

pub block-requires-clause-x_bound : goal.block-requires-clause-x_bound
block-requires-clause-x_bound c =
    let l = block-fits c.args.k c.args.b c.args.f.width c.args.f.height c.requires.lies in
    let f = c.requires.k_bound.1.fits c.args.k c.requires.k_bound.0 in
    simp c.block_in-c.ensures (omega (arith, l.wide, f.wide), omega (arith, l.high, f.high))

pub returns : goal.returns
unfolding picture_of
returns c = simp (c.plane_of-q.ensures, c.block_in-c.ensures) at c.block.ensures
