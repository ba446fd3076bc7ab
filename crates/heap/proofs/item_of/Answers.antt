use Rattle.std.proofs.Common.{rules, sym}
use Rattle.heap.proofs.ItemLaws.{item_exactly}
use Rattle.heap.specs.Items.{item_or}
use Rattle.refusal.specs.Order.{after}
use Rattle.heap.proofs.item_of.Goals as goal

pub part_of-requires : goal.part_of-requires
part_of-requires c = (item_exactly _ _).0 (sym c.in-Ok.ensures)

pub returns-in-Ok : goal.returns-in-Ok
unfolding item_or after
returns-in-Ok c = search rules

pub returns-in-Err : goal.returns-in-Err
unfolding item_or after
returns-in-Err c = search rules
