use Rattle.std.proofs.Common.{sym, rules}
use Rattle.refusal.specs.Order.{after}
use Rattle.table.specs.Says.{column_of}
use Rattle.table.proofs.ContextLaws.{table_exactly}
use Rattle.table.proofs.column_of.Goals as goal

pub returns-in_err-test_table : goal.returns-in_err-test_table
unfolding column_of after
returns-in_err-test_table c = search rules

pub column_in-requires : goal.column_in-requires
column_in-requires c = (table_exactly _).0 (sym c.in_ok-test_table.ensures)

pub returns : goal.returns
unfolding column_of after
returns c = search rules
