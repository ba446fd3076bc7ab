-- The struct that the C face answers for each case of an answer about a table. Assumes nothing: these are definitions.
use Rattle.std.specs.Prelude.{ℕ, List, get_or, Option, Some, None, Result, Ok, Err}
use Rattle.refusal.specs.Number.{number}
use Rattle.rowcells.specs.RowCells.{cell_words}
use Rattle.pst.specs.Meaning.{kind_of, number_of}
use Rattle.rkw.specs.declared.RkwTable.{RkwTable}
use Rattle.rkw.specs.declared.RkwColumn.{RkwColumn}
use Rattle.rkw.specs.declared.RkwCount.{RkwCount}
use Rattle.rkw.specs.declared.RkwCell.{RkwCell}
use Rattle.rkw.specs.declared.RkwRow.{RkwRow}
use Rattle.rkw.specs.declared.RkwCells.{RkwCells}
use Rattle.refusal.specs.declared.Refusal.{Refusal}
use Rattle.table.specs.declared.Table.{Table}
use Rattle.columns.specs.declared.Column.{Column}
use Rattle.cells.specs.declared.Cell.{Cell}

-- none: refused
abbrev pub no_table : ℕ → ℕ → ℕ → RkwTable
no_table refusal place more =
    record {
      refusal = refusal;
      place = place;
      more = more;
      columns = 0;
      row_size = 0;
      existence = 0;
      rows_kind = 0;
      rows_value = 0;
    }

unfoldable pub table_answer : Result Table Refusal → RkwTable
table_answer (Ok t) =
    record {
      refusal = 0;
      place = 0;
      more = 0;
      columns = t.columns;
      row_size = t.size;
      existence = t.existence;
      rows_kind = kind_of t.rows;
      rows_value = number_of t.rows;
    }
table_answer (Err r) = no_table (number r.fault) r.place r.more

-- none: absent, or refused
abbrev pub no_column : ℕ → ℕ → ℕ → RkwColumn
no_column refusal place more =
    record { refusal = refusal; place = place; more = more; found = 0; tag = 0; offset = 0; width = 0; bit = 0 }

unfoldable pub column_answer : Result (Option Column) Refusal → RkwColumn
column_answer (Ok (Some c)) =
    record {
      refusal = 0;
      place = 0;
      more = 0;
      found = 1;
      tag = c.tag;
      offset = c.offset;
      width = c.width;
      bit = c.bit;
    }
column_answer (Ok None) = no_column 0 0 0
column_answer (Err r) = no_column (number r.fault) r.place r.more

unfoldable pub count_answer : Result ℕ Refusal → RkwCount
count_answer (Ok n) = record { refusal = 0; place = 0; more = 0; rows = n }
count_answer (Err r) = record { refusal = number r.fault; place = r.place; more = r.more; rows = 0 }

-- a cell that is there, or missing in its row
abbrev pub valued_cell : ℕ → ℕ → RkwCell
valued_cell kind value = record { refusal = 0; place = 0; more = 0; found = 1; kind = kind; value = value }

-- none: absent, or refused
abbrev pub no_cell : ℕ → ℕ → ℕ → RkwCell
no_cell refusal place more = record { refusal = refusal; place = place; more = more; found = 0; kind = 0; value = 0 }

-- the struct of a place's six words, in their order
abbrev pub of_six : List ℕ → RkwCell
of_six words =
    record {
      refusal = get_or words 0 0;
      place = get_or words 1 0;
      more = get_or words 2 0;
      found = get_or words 3 0;
      kind = get_or words 4 0;
      value = get_or words 5 0;
    }

-- the same words as in a row
unfoldable pub cell_answer : Result (Option Cell) Refusal → RkwCell
cell_answer answer = of_six (cell_words answer)

unfoldable pub row_answer : Result (Option ℕ) Refusal → RkwRow
row_answer (Ok (Some n)) = record { refusal = 0; place = 0; more = 0; found = 1; row = n }
row_answer (Ok None) = record { refusal = 0; place = 0; more = 0; found = 0; row = 0 }
row_answer (Err r) = record { refusal = number r.fault; place = r.place; more = r.more; found = 0; row = 0 }

unfoldable pub cells_answer : Result (Option ℕ) Refusal → RkwCells
cells_answer (Ok (Some n)) = record { refusal = 0; place = 0; more = 0; found = 1; cells = n }
cells_answer (Ok None) = record { refusal = 0; place = 0; more = 0; found = 0; cells = 0 }
cells_answer (Err r) = record { refusal = number r.fault; place = r.place; more = r.more; found = 0; cells = 0 }
