use Rattle.std.proofs.Common.{◌≡◌, ap, ◌∙◌, sym, arith, Ok, Err, Some}
use Rattle.refusal.specs.declared.Fault.TheVariants.{ShortBuffer}
use Rattle.refusal.specs.Order.{◌needing◌}
use Rattle.columns.specs.Record.{column_count}
use Rattle.table.specs.Context.{table_record, TableSound}
use Rattle.table.proofs.ContextLaws.{record_long}
use Rattle.cells.specs.Rows.{Held, rows_named, row_bytes, row_count}
use Rattle.cells.proofs.HeldLaws.{rows_exactly}
use Rattle.rowcells.proofs.ReadLaws.{read_absent, area_absent, read_short, area_kept, read_cells, area_filled}
use Rattle.rowcells.proofs.read_in.Goals as goal
use Rattle.rowcells.proofs.read_in.Goals.{Start, After-row_count, After-column_count-count}

-- the table and what holds its rows
held : (c : Start) → TableSound c.args.block.now × Held c.args.block.now c.args.rows.now (rows_named c.args.block.now)
held c = (rows_exactly _ _).0 c.requires

-- how many rows and how many columns it has
rows : (c : After-row_count) → c.row_count.result ≡ row_count (table_record c.args.block.now) (row_bytes c.args.block.now c.args.rows.now)
rows c = c.row_count.ensures ∙ ap (row_count (table_record c.args.block.now)) c.row_bytes.ensures

many : (c : After-column_count-count) → c.column_count-count.result ≡ column_count (table_record c.args.block.now)
many c = c.column_count-count.ensures.0 ∙ ap column_count c.record_of.ensures

pub row_bytes-requires : goal.row_bytes-requires
row_bytes-requires c = held (goal.at.row_bytes-requires c).Start

pub row_count-requires : goal.row_count-requires
row_count-requires c = (held (goal.at.row_count-requires c).Start).0

pub returns-then-row_count-i : goal.returns-then-row_count-i
returns-then-row_count-i c =
    let told = rows (goal.at.returns-then-row_count-i c).After-row_count in
    record { answer = sym (read_absent _ _ _ c.requires (omega (arith, told)) _); area = sym (area_absent _ _ _ c.requires (omega (arith, told)) c.args.places.now) }

pub record_of-requires : goal.record_of-requires
record_of-requires c = (held (goal.at.record_of-requires c).Start).0

pub column_count-count-requires : goal.column_count-count-requires
column_count-count-requires c = rw c.record_of.ensures (record_long _ (held (goal.at.column_count-count-requires c).Start).0)

pub returns-then-places-count : goal.returns-then-places-count
returns-then-places-count c =
    let at = goal.at.returns-then-places-count c in
    let told = rows at.After-row_count in
    let read = many at.After-column_count-count in
    record {
      answer = c.refused_needing.ensures ∙ ap (λ n. Err (ShortBuffer needing n)) read ∙ sym (read_short _ _ _ c.requires (omega (arith, told)) _ (omega (arith, read)));
      area = sym (area_kept _ _ _ c.requires (omega (arith, told)) c.args.places.now (omega (arith, read)));
    }

pub fill-requires : goal.fill-requires
fill-requires c =
    let at = goal.at.fill-requires c in
    (c.requires, omega (arith, rows at.After-row_count), omega (arith, many at.After-column_count-count))

pub returns : goal.returns
returns c =
    let at = goal.at.returns c in
    let told = rows at.After-row_count in
    let read = many at.After-column_count-count in
    record {
      answer = ap (λ n. Ok (Some n)) read ∙ sym (read_cells _ _ _ c.requires (omega (arith, told)) _ (omega (arith, read)));
      area = c.fill.ensures ∙ sym (area_filled _ _ _ c.requires (omega (arith, told)) c.args.places.now (omega (arith, read)));
    }
