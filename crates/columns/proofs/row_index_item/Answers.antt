use Rattle.columns.specs.Record.{row_index_item}
use Rattle.columns.proofs.row_index_item.Goals as goal

pub returns : goal.returns
unfolding row_index_item
returns c = c.field4.ensures
