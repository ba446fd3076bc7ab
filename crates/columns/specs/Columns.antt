-- Document 02, 5/13, and 003, 2.3.4.2: the columns of a table record, and their rules. Assumes nothing: these are definitions.
use Rattle.std.specs.Prelude.{ℕ, zero, suc, ◌+◌, ◌*◌, ◌-◌, ◌/◌, ◌%◌, Bool, true, false, cond, not, ◌&&◌, ◌||◌, List, leb, eqb, Option}
use Rattle.le.specs.Bytes.{byte, field, part}
use Rattle.keys.specs.declared.Shape.{Shape}
use Rattle.keys.specs.declared.Sought.TheVariants.{Equal}
use Rattle.keys.specs.Records.{keys_of}
use Rattle.keys.specs.Search.{first_that}
use Rattle.columns.specs.declared.Column.{Column}
use Rattle.columns.specs.Record.{column_count, existence_start, row_size_of}

-- the i-th column, counted from 0: tag 4, offset 2, width 1, bit 1
unfoldable pub column_at : List ℕ → ℕ → Column
column_at table i =
    record { tag = field table (22 + 8 * i) 4; offset = field table (26 + 8 * i) 2; width = byte table (28 + 8 * i); bit = byte table (29 + 8 * i) }

-- "References are the types 0x1F, 0x1E, 0x102, 0x0D, 0x48 and every type with bit 0x1000"; the type is the low half of a tag
unfoldable pub reference : ℕ → Bool
reference type = eqb type 0x1F || eqb type 0x1E || eqb type 0x102 || eqb type 0x0D || eqb type 0x48 || eqb (type / 4096 % 2) 1

unfoldable pub refers : Column → Bool
refers column = reference (column.tag % 65536)

-- "Widths: 4 for references, 1, 2, 4 or 8 for numbers"
unfoldable pub width_fits : Column → Bool
width_fits column =
    cond (refers column) (eqb column.width 4) (eqb column.width 1 || eqb column.width 2 || eqb column.width 4 || eqb column.width 8)

-- "Columns must lie in the row before its existence bytes, their bits within those"
unfoldable pub column_fits : List ℕ → Column → Bool
column_fits table column =
    leb (column.offset + column.width) (existence_start table) && leb (column.bit + 1) (8 * (row_size_of table - existence_start table)) && width_fits column

-- "no two may share a tag, a byte or an existence bit": one ends where the other begins, or before
unfoldable pub apart : Column → Column → Bool
apart one other =
    not (eqb one.tag other.tag)
    && (leb (one.offset + one.width) other.offset || leb (other.offset + other.width) one.offset)
    && not (eqb one.bit other.bit)

-- a column as a record with a key in front, its tag
abbrev pub column_shape : Shape
column_shape = record { size = 8; width = 4; reserved = false }

module _ (table : List ℕ) where
  -- each of the first n columns
  unfoldable pub each_fits : ℕ → Bool
  each_fits zero = true
  each_fits (suc n) = each_fits n && column_fits table (column_at table n)

  -- a column beside each of the first n, and any two of the first n
  unfoldable pub apart_from : Column → ℕ → Bool
  apart_from column zero = true
  apart_from column (suc n) = apart_from column n && apart (column_at table n) column

  unfoldable pub all_apart : ℕ → Bool
  all_apart zero = true
  all_apart (suc n) = all_apart n && apart_from (column_at table n) n

  unfoldable pub columns_fit : Bool
  columns_fit = each_fits (column_count table) && all_apart (column_count table)

  -- the columns as records with their tags in front; where the column with a tag stands among them
  unfoldable pub column_bytes : List ℕ
  column_bytes = part table 22 (8 * column_count table)

  unfoldable pub tags : List ℕ
  tags = keys_of column_shape (column_count table) column_bytes

  unfoldable pub seat_of : ℕ → Option ℕ
  seat_of tag = first_that Equal tag tags
