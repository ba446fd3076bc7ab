use Rattle.block.specs.Block.{sum_fits}
use Rattle.block.proofs.sum_fits.Goals as goal

pub returns : goal.returns
unfolding sum_fits
returns c = rw (c.field4.ensures, c.checksum.ensures)
