use Rattle.std.proofs.Common.{sym, ◌∙◌, rules}
use Rattle.heap.proofs.ShapeLaws.{heap_exactly}
use Rattle.table.proofs.ContextLaws.{wrong_shape, right_shape}
use Rattle.table.proofs.test_table.Goals as goal

pub returns-in_err-test_heap : goal.returns-in_err-test_heap
returns-in_err-test_heap c = rw (wrong_shape c.args.block.now _ (sym c.in_err-test_heap.ensures)) (search rules)

pub check_context-requires : goal.check_context-requires
check_context-requires c = (heap_exactly _).0 (sym c.in_ok-test_heap.ensures)

pub returns : goal.returns
returns c = c.check_context.ensures ∙ sym (right_shape _ (sym c.in_ok-test_heap.ensures))
