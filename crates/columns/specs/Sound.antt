-- The rules of a table record and its columns as plain facts, with no order among them. Assumes nothing: these are definitions.
use Rattle.std.specs.Prelude.{ℕ, ◌+◌, ◌*◌, ◌-◌, ◌≤◌, ◌<◌, ◌≡◌, true, false, ◌⊎◌, List, length}
use Rattle.le.specs.Bytes.{byte}
use Rattle.columns.specs.declared.Column.{Column}
use Rattle.columns.specs.Record.{column_count, existence_start, row_size_of}
use Rattle.columns.specs.Columns.{column_at, refers}

-- "the table record (byte 0 7C, exactly 22 + 8 x columns bytes, a row of at least one byte, existence bytes from rgib[2] to rgib[3], rgib[2] at most rgib[3])"
pub record RecordSound (table : List ℕ) : Type 0 where
  pub whole : length table ≡ 22 + 8 * column_count table
  pub mark : byte table 0 ≡ 0x7C
  pub row : 1 ≤ row_size_of table
  pub existence : existence_start table ≤ row_size_of table

-- a byte of a row that a column takes up
pub record Takes (column : Column) (place : ℕ) : Type 0 where
  pub from : column.offset ≤ place
  pub to : place < column.offset + column.width

-- the widths that a number may have
abbrev pub NumberWidth : ℕ → Type 0
NumberWidth width = (width ≡ 1) ⊎ ((width ≡ 2) ⊎ ((width ≡ 4) ⊎ (width ≡ 8)))

pub record ColumnSound (table : List ℕ) (column : Column) : Type 0 where
  -- it lies in the row before its existence bytes, and its bit within them
  pub before : column.offset + column.width ≤ existence_start table
  pub within : column.bit < 8 * (row_size_of table - existence_start table)
  pub four : refers column ≡ true → column.width ≡ 4
  pub number : refers column ≡ false → NumberWidth column.width

-- two columns share nothing
pub record Apart (one other : Column) : Type 0 where
  pub tag : one.tag ≡ other.tag → ⊥
  pub byte : (place : ℕ) → Takes one place → Takes other place → ⊥
  pub bit : one.bit ≡ other.bit → ⊥

pub record ColumnsSound (table : List ℕ) : Type 0 where
  pub each : (i : ℕ) → i < column_count table → ColumnSound table (column_at table i)
  -- "no two may share a tag, a byte or an existence bit"
  pub any_two : (i j : ℕ) → i < column_count table → j < column_count table → (i ≡ j → ⊥) → Apart (column_at table i) (column_at table j)
