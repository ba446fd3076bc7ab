-- Document 02, 5/13: "the column list". What is answered for a table and for a column. Assumes nothing: these are definitions.
use Rattle.std.specs.Prelude.{ℕ, ◌+◌, ◌%◌, cond, List, leb, eqb, Option, Some, None, Result, Ok, Err}
use Rattle.refusal.specs.Order.{after}
use Rattle.columns.specs.Record.{column_count, existence_start, row_size_of, rows_value_of}
use Rattle.columns.specs.Columns.{column_at}
use Rattle.table.specs.declared.Named.{Named}
use Rattle.table.specs.declared.Named.TheVariants.{Nothing, Item, Subnode}
use Rattle.table.specs.declared.Table.{Table}
use Rattle.table.specs.Context.{table_record, table_test}
use Rattle.refusal.specs.declared.Refusal.{Refusal}
use Rattle.columns.specs.declared.Column.{Column}

-- what a value names: "Rows 0: no rows; low five bits zero: a heap item ..; else the caller's block of that subnode"; a reference likewise
unfoldable pub named_by : ℕ → Named
named_by value = cond (eqb value 0) Nothing (cond (eqb (value % 32) 0) (Item value) (Subnode value))

-- what the table record says
unfoldable pub table_in : List ℕ → Table
table_in table =
    record { columns = column_count table; size = row_size_of table; existence = existence_start table; rows = named_by (rows_value_of table) }

unfoldable pub table_of : List ℕ → Result Table Refusal
table_of block = after Err (table_test block) (Ok (table_in (table_record block)))

-- a column by its index; past the last there is none
unfoldable pub column_in : List ℕ → ℕ → Option Column
column_in table index = cond (leb (index + 1) (column_count table)) (Some (column_at table index)) None

unfoldable pub column_of : List ℕ → ℕ → Result (Option Column) Refusal
column_of block index = after Err (table_test block) (Ok (column_in (table_record block) index))
