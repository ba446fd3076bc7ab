use Rattle.cells.specs.Cells.{exists}
use Rattle.cells.proofs.has_cell.Goals as goal

pub returns : goal.returns
unfolding exists
returns c = rw (c.byte_at-byte.ensures, c.existence_start.ensures.0)
