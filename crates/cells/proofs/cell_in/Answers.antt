use Rattle.std.proofs.Common.{◌≡◌, ◌<◌, sym, ap, ap₂, ◌∙◌, arith, length, Some}
use Rattle.columns.specs.Record.{column_count}
use Rattle.columns.specs.Columns.{column_at, seat_of}
use Rattle.columns.proofs.SeatLaws.{seat_inside}
use Rattle.table.specs.Context.{table_record}
use Rattle.table.proofs.ContextLaws.{record_short}
use Rattle.cells.specs.Cells.{cell_at}
use Rattle.cells.proofs.RowLaws.{row_length}
use Rattle.cells.proofs.CellLaws.{past_the_end, unknown_tag, known_tag}
use Rattle.cells.proofs.cell_in.Goals as goal
use Rattle.cells.proofs.cell_in.Goals.{In-Some, After-column_at-column}

-- the seat that was found is that of the column with the tag
sought : (c : In-Some) → Some c.in-Some.index ≡ seat_of (table_record c.args.block.now) c.args.tag
sought c = c.in-Some.ensures ∙ ap (λ table. seat_of table c.args.tag) c.record_of-table.ensures

there : (c : In-Some) → c.in-Some.index < column_count (table_record c.args.block.now)
there c = seat_inside _ c.requires.shape _ _ (sought c)

read : (c : After-column_at-column) → c.column_at-column.result ≡ column_at (table_record c.args.block.now) c.in-Some.index
read c = c.column_at-column.ensures.0 ∙ ap (λ table. column_at table c.in-Some.index) c.record_of-table.ensures

pub returns-then-row_count-i : goal.returns-then-row_count-i
returns-then-row_count-i c = sym (past_the_end _ _ _ _ _ (omega (arith, c.row_count.ensures)))

pub returns-in_default : goal.returns-in_default
returns-in_default c =
    let a = c.args in
    sym (unknown_tag a.block.now (table_record a.block.now) a.bytes.now a.row a.tag (omega (arith, c.row_count.ensures))
    (c.in_default.ensures ∙ ap (λ table. seat_of table a.tag) c.record_of-table.ensures))

pub column_at-column-requires : goal.column_at-column-requires
column_at-column-requires c =
    let pre = c.requires in
    omega (arith, there (goal.at.column_at-column-requires c).In-Some, pre.shape.whole, ap length c.record_of-table.ensures, record_short _ pre)

pub cell_at-requires : goal.cell_at-requires
cell_at-requires c =
    let pre = c.requires in
    let column = read (goal.at.cell_at-requires c).After-column_at-column in
    let short = rw column at c.column_at-column.ensures.3 in
    rw (c.record_of-table.ensures, column)
    (pre.heap, pre.shape, pre.columns.each _ (there (goal.at.cell_at-requires c).In-Some), ap length c.row_at.ensures ∙ row_length _ _ _ (omega (arith, c.row_count.ensures)), short)

pub returns : goal.returns
returns c =
    let a = c.args in
    c.cell_at.ensures
    ∙ ap (λ table. cell_at a.block.now table c.row_at.result.now c.column_at-column.result) c.record_of-table.ensures
    ∙ ap₂ (λ row column. cell_at a.block.now (table_record a.block.now) row column) c.row_at.ensures (read (goal.at.returns c).After-column_at-column)
    ∙ sym (known_tag a.block.now (table_record a.block.now) a.bytes.now a.row a.tag _ (omega (arith, c.row_count.ensures)) (sought (goal.at.returns c).In-Some))
