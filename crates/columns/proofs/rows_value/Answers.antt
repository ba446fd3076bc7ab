use Rattle.columns.specs.Record.{rows_value_of}
use Rattle.columns.proofs.rows_value.Goals as goal

pub returns : goal.returns
unfolding rows_value_of
returns c = c.field4.ensures
