use Rattle.std.proofs.Common.{rules, sym}
use Rattle.heap.proofs.ItemLaws.{item_exactly}
use Rattle.heap.specs.Items.{item_span}
use Rattle.refusal.specs.Order.{after}
use Rattle.heap.proofs.find_item.Goals as goal

pub returns-in_err-test_item : goal.returns-in_err-test_item
unfolding item_span after
returns-in_err-test_item c = search rules

pub span_of-requires : goal.span_of-requires
span_of-requires c = (item_exactly _ _).0 (sym c.in_ok-test_item.ensures)

pub returns : goal.returns
unfolding item_span after
returns c = search rules
