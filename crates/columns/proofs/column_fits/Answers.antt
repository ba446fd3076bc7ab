use Rattle.columns.specs.Columns.{column_fits}
use Rattle.columns.proofs.column_fits.Goals as goal

pub returns : goal.returns
unfolding column_fits
returns c = rw (c.existence_start-start.ensures.0, c.row_size.ensures.0, c.width_fits.ensures)
