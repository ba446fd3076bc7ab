use Rattle.columns.specs.Record.{row_size_of}
use Rattle.columns.proofs.row_size.Goals as goal

pub returns : goal.returns
unfolding row_size_of
returns c = c.short_in.ensures
