use Rattle.columns.specs.Record.{column_count}
use Rattle.columns.proofs.column_count.Goals as goal

pub returns : goal.returns
unfolding column_count
returns c = c.byte_in.ensures
