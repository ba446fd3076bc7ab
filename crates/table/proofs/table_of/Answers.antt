use Rattle.std.proofs.Common.{sym, rules}
use Rattle.refusal.specs.Order.{after}
use Rattle.table.specs.Says.{table_of}
use Rattle.table.proofs.ContextLaws.{table_exactly}
use Rattle.table.proofs.table_of.Goals as goal

pub returns-in_err-test_table : goal.returns-in_err-test_table
unfolding table_of after
returns-in_err-test_table c = search rules

pub table_in-requires : goal.table_in-requires
table_in-requires c = (table_exactly _).0 (sym c.in_ok-test_table.ensures)

pub returns : goal.returns
unfolding table_of after
returns c = search rules
