use Rattle.std.proofs.Common.{◌≡◌, ◌+◌, ◌-◌, ◌*◌, ◌<◌, sym, ap, ap₂, ◌∙◌, arith, rules, length, get_or, take}
use lib.Seq.{take_all, length-take-le}
use borrow.Rule.Slice.PartMut.{put_mid}
use Rattle.laws.specs.Front.{fronted}
use Rattle.keys.specs.Search.{joined}
use Rattle.keys.proofs.Pieces.{pieces_length, pieces_on}
use Rattle.columns.specs.Record.{column_count}
use Rattle.columns.specs.Columns.{column_at, tags}
use Rattle.columns.proofs.SeatLaws.{tags_length}
use Rattle.table.specs.Context.{table_record, TableSound}
use Rattle.table.proofs.ContextLaws.{record_long, record_short}
use Rattle.cells.specs.Rows.{Held, rows_named, row_bytes, row_at}
use Rattle.cells.specs.Cells.{cell_at, cell_of}
use Rattle.cells.proofs.HeldLaws.{rows_exactly}
use Rattle.cells.proofs.RowLaws.{row_length}
use Rattle.cells.proofs.WithinLaws.{cell_own}
use Rattle.rowcells.specs.RowCells.{cell_words, place_of}
use Rattle.rowcells.proofs.Words.{place_length, put_behind}
use Rattle.rowcells.proofs.fill.Goals as goal
use Rattle.rowcells.proofs.fill.Goals.{Start, After-row_at-bytes, After-column_count-count, After-column_at-column, After-cell_at}

-- the table and what holds its rows
held : (c : Start) → TableSound c.args.block.now × Held c.args.block.now c.args.rows.now (rows_named c.args.block.now)
held c = (rows_exactly _ _).0 c.requires.0

many : (c : After-column_count-count) → c.column_count-count.result ≡ column_count (table_record c.args.block.now)
many c = c.column_count-count.ensures.0 ∙ ap column_count c.record_of-table.ensures

-- the row, and a column, that were read
row : (c : After-row_at-bytes) → (let block = c.args.block.now in c.row_at-bytes.result.now ≡ row_at (table_record block) (row_bytes block c.args.rows.now) c.args.row)
row c = c.row_at-bytes.ensures ∙ ap (λ bytes. row_at (table_record c.args.block.now) bytes c.args.row) c.row_bytes.ensures

column : (c : After-column_at-column) → c.column_at-column.result ≡ column_at (table_record c.args.block.now) c.loop-i.i
column c = c.column_at-column.ensures.0 ∙ ap (λ table. column_at table c.loop-i.i) c.record_of-table.ensures

-- the cell is that of the column's tag
cell : (c : After-cell_at) → (let a = c.args in c.cell_at.result ≡ cell_of a.block.now a.rows.now a.row (get_or (tags (table_record a.block.now)) c.loop-i.i 0))
cell c =
    let a = c.args in
    let there : c.loop-i.i < column_count (table_record a.block.now) = omega (arith, many (goal.at.After-cell_at c).After-column_count-count) in
    c.cell_at.ensures
    ∙ ap (λ table. cell_at a.block.now table c.row_at-bytes.result.now c.column_at-column.result) c.record_of-table.ensures
    ∙ ap₂ (λ row column. cell_at a.block.now (table_record a.block.now) row column) (row (goal.at.After-cell_at c).After-row_at-bytes) (column (goal.at.After-cell_at c).After-column_at-column)
    ∙ sym (cell_own a.block.now a.rows.now (held (goal.at.After-cell_at c).Start).0 c.requires.0 a.row c.requires.1 c.loop-i.i there)

pub record_of-table-requires : goal.record_of-table-requires
record_of-table-requires c = (held (goal.at.record_of-table-requires c).Start).0

pub row_bytes-requires : goal.row_bytes-requires
row_bytes-requires c = held (goal.at.row_bytes-requires c).Start

pub row_at-bytes-requires : goal.row_at-bytes-requires
row_at-bytes-requires c = ((held (goal.at.row_at-bytes-requires c).Start).0, rw c.row_bytes.ensures c.requires.1)

pub column_count-count-requires : goal.column_count-count-requires
column_count-count-requires c = rw c.record_of-table.ensures (record_long _ (held (goal.at.column_count-count-requires c).Start).0)

pub loop-i-init : goal.loop-i-init
unfolding joined
loop-i-init c = search rules

pub column_at-column-requires : goal.column_at-column-requires
column_at-column-requires c =
    let sound = (held (goal.at.column_at-column-requires c).Start).0 in
    omega (arith, many (goal.at.column_at-column-requires c).After-column_count-count, sound.shape.whole, ap length c.record_of-table.ensures, record_short _ sound)

pub cell_at-requires : goal.cell_at-requires
cell_at-requires c =
    let sound = (held (goal.at.cell_at-requires c).Start).0 in
    let read = column (goal.at.cell_at-requires c).After-column_at-column in
    let short = rw read at c.column_at-column.ensures.3 in
    let there : c.loop-i.i < column_count (table_record c.args.block.now) = omega (arith, many (goal.at.cell_at-requires c).After-column_count-count) in
    rw (c.record_of-table.ensures, read)
    (sound.heap, sound.shape, sound.columns.each _ there, ap length (row (goal.at.cell_at-requires c).After-row_at-bytes) ∙ row_length _ _ _ c.requires.1, short)

pub loop-i-preserved : goal.loop-i-preserved
loop-i-preserved c =
    let a = c.args in
    let l = c.loop-i in
    let at = goal.at.loop-i-preserved c in
    let T = table_record a.block.now in
    let long = tags_length T (held at.Start).0.shape in
    let there : l.i < length (tags T) = omega (arith, long, many at.After-column_count-count) in
    let piece = place_of a.block.now a.rows.now a.row in
    let wide = place_length a.block.now a.rows.now a.row in
    let words = c.copy_from_slice.ensures.after ∙ c.words_of-words.ensures ∙ ap cell_words (cell at.After-cell_at) in
    let so_far : 6 * l.i ≡ length (joined piece (take l.i (tags T))) = sym (pieces_length piece 6 wide (take l.i (tags T)) ∙ ap (λ k. 6 * k) (length-take-le l.i (tags T) (omega (arith, there)))) in
    ap (put_mid (6 * l.i) (6 * l.i + 6 - 6 * l.i) l.places) words
    ∙ put_behind a.places.now (joined piece (take l.i (tags T))) (piece (get_or (tags T) l.i 0)) l.places (6 * l.i) (6 * l.i + 6 - 6 * l.i) l.invariant so_far (omega (arith, wide (get_or (tags T) l.i 0)))
    ∙ ap (λ x. fronted x a.places.now) (sym (pieces_on piece 6 wide (tags T) l.i there))

pub returns : goal.returns
returns c =
    let a = c.args in
    let at = goal.at.returns c in
    let T = table_record a.block.now in
    let long = tags_length T (held at.Start).0.shape in
    c.loop-i.invariant
    ∙ ap (λ x. fronted (joined (place_of a.block.now a.rows.now a.row) x) a.places.now) (take_all c.loop-i.i (tags T) (omega (arith, long, many at.After-column_count-count)))
