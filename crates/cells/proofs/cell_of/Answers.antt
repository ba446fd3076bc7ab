use Rattle.std.proofs.Common.{sym, rules}
use Rattle.refusal.specs.Order.{after}
use Rattle.cells.specs.Cells.{cell_of}
use Rattle.cells.proofs.HeldLaws.{rows_exactly}
use Rattle.cells.proofs.cell_of.Goals as goal

pub returns-in_err-test_rows : goal.returns-in_err-test_rows
unfolding cell_of after
returns-in_err-test_rows c = search rules

pub row_bytes-requires : goal.row_bytes-requires
row_bytes-requires c = (rows_exactly _ _).0 (sym c.in_ok-test_rows.ensures)

pub cell_in-requires : goal.cell_in-requires
cell_in-requires c = ((rows_exactly _ _).0 (sym c.in_ok-test_rows.ensures)).0

pub returns : goal.returns
unfolding cell_of after
returns c = search rules
