use Rattle.std.proofs.Common.{sym, rules}
use Rattle.refusal.specs.Order.{after}
use Rattle.cells.specs.Rows.{count_of}
use Rattle.cells.proofs.HeldLaws.{rows_exactly}
use Rattle.cells.proofs.count_rows.Goals as goal

pub returns-in_err-test_rows : goal.returns-in_err-test_rows
unfolding count_of after
returns-in_err-test_rows c = search rules

pub row_bytes-requires : goal.row_bytes-requires
row_bytes-requires c = (rows_exactly _ _).0 (sym c.in_ok-test_rows.ensures)

pub row_count-requires : goal.row_count-requires
row_count-requires c = ((rows_exactly _ _).0 (sym c.in_ok-test_rows.ensures)).0

pub returns : goal.returns
unfolding count_of after
returns c = search rules
