-- Document 02, 5/13: "one cell by row number and property tag". Assumes nothing: these are definitions.
use Rattle.std.specs.Prelude.{ℕ, ◌+◌, ◌-◌, ◌/◌, ◌%◌, ◌^◌, Bool, cond, List, leb, eqb, Option, Some, None, Result, Ok, Err}
use Rattle.le.specs.Bytes.{byte, field}
use Rattle.refusal.specs.Order.{demand, after}
use Rattle.heap.specs.Items.{item_fits, bad_item}
use Rattle.columns.specs.declared.Column.{Column}
use Rattle.columns.specs.Record.{existence_start}
use Rattle.columns.specs.Columns.{column_at, refers, seat_of}
use Rattle.table.specs.declared.Named.{Named}
use Rattle.table.specs.declared.Named.TheVariants as named
use Rattle.table.specs.Context.{table_record}
use Rattle.table.specs.Says.{named_by}
use Rattle.cells.specs.Rows.{rows_test, row_bytes, row_count, row_at}
use Rattle.refusal.specs.declared.Refusal.{Refusal}
use Rattle.cells.specs.declared.Cell.{Cell}
use Rattle.cells.specs.declared.Cell.TheVariants.{Empty, Item, Missing, Number, Subnode}

-- "missing by the row's existence bits (bit 7 of the first byte is bit 0)"
unfoldable pub exists : List ℕ → List ℕ → Column → Bool
exists table row column = eqb (byte row (existence_start table + column.bit / 8) / 2 ^ (7 - column.bit % 8) % 2) 1

-- "a heap item (19 if wrong), a subnode"; "A reference cell of value 0 whose bit is set is an empty value"
unfoldable pub named_cell : List ℕ → Named → Result (Option Cell) Refusal
named_cell block named.Nothing = Ok (Some Empty)
named_cell block (named.Item item) = after Err (demand (item_fits block item) bad_item) (Ok (Some (Item item)))
named_cell block (named.Subnode subnode) = Ok (Some (Subnode subnode))

-- the number that stands in a row where the column has its bytes
unfoldable pub stored : List ℕ → Column → ℕ
stored row column = field row column.offset column.width

module _ (block table row : List ℕ) where
  -- "A cell is a fixed number, a heap item, a subnode, or missing"
  unfoldable pub cell_at : Column → Result (Option Cell) Refusal
  cell_at column = cond (exists table row column) (cond (refers column) (named_cell block (named_by (stored row column))) (Ok (Some (Number (stored row column))))) (Ok (Some Missing))

  -- "unknown tags are absent"
  unfoldable pub cell_by : Option ℕ → Result (Option Cell) Refusal
  cell_by (Some i) = cell_at (column_at table i)
  cell_by None = Ok None

-- "Row numbers past the end .. are absent"
unfoldable pub cell_in : List ℕ → List ℕ → List ℕ → ℕ → ℕ → Result (Option Cell) Refusal
cell_in block table bytes row tag = cond (leb (row + 1) (row_count table bytes)) (cell_by block table (row_at table bytes row) (seat_of table tag)) (Ok None)

unfoldable pub cell_of : List ℕ → List ℕ → ℕ → ℕ → Result (Option Cell) Refusal
cell_of block rows row tag = after Err (rows_test block rows) (cell_in block (table_record block) (row_bytes block rows) row tag)
