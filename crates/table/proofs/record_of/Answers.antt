use mathlib.Core.Path.{ap, ◌∙◌}
use Rattle.heap.specs.Items.{item_part}
use Rattle.table.specs.Context.{table_record}
use Rattle.table.proofs.record_of.Goals as goal

pub returns : goal.returns
unfolding table_record
returns c = c.part_of.ensures ∙ ap (item_part c.args.block.now) c.user_root.ensures
