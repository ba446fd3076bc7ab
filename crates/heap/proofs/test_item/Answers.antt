use Rattle.std.proofs.Common.{rules, sym}
use Rattle.heap.proofs.ShapeLaws.{heap_exactly}
use Rattle.heap.proofs.ItemLaws.{item_shape, item_number}
use Rattle.heap.proofs.test_item.Goals as goal
use Rattle.refusal.specs.Order.{demand}

pub returns-in_err-test_heap : goal.returns-in_err-test_heap
returns-in_err-test_heap c = rw (item_shape c.args.block.now c.args.item _ (sym c.in_err-test_heap.ensures)) (search rules)

pub item_fits-requires : goal.item_fits-requires
item_fits-requires c = (heap_exactly _).0 (sym c.in_ok-test_heap.ensures)

pub returns-then-not-item_fits : goal.returns-then-not-item_fits
unfolding demand
returns-then-not-item_fits c = rw (item_number c.args.block.now c.args.item (sym c.in_ok-test_heap.ensures)) (search rules)

pub returns : goal.returns
unfolding demand
returns c = rw (item_number c.args.block.now c.args.item (sym c.in_ok-test_heap.ensures)) (search rules)
