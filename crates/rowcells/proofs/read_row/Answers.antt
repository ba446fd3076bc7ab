use Rattle.std.proofs.Common.{rules}
use Rattle.refusal.specs.Order.{after}
use Rattle.rowcells.specs.RowCells.{row_read, row_area}
use Rattle.rowcells.proofs.read_row.Goals as goal

pub returns-in_err-test_rows : goal.returns-in_err-test_rows
unfolding row_read row_area after
returns-in_err-test_rows c = record { answer = search rules; area = search rules }
