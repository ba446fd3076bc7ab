-- Document 02, 5/13, and 003, 2.3.4.1: the fields of a table record, and its shape. Assumes nothing: these are definitions.
use Rattle.std.specs.Prelude.{ℕ, ◌+◌, ◌*◌, Bool, ◌&&◌, List, leb, eqb, length}
use Rattle.le.specs.Bytes.{byte, field}

unfoldable pub column_count : List ℕ → ℕ
column_count table = byte table 1

-- "Existence bytes run from rgib[2] to rgib[3], the row's length"
unfoldable pub existence_start : List ℕ → ℕ
existence_start table = field table 6 2

unfoldable pub row_size_of : List ℕ → ℕ
row_size_of table = field table 8 2

-- the item of the row index, and what names the rows
unfoldable pub row_index_item : List ℕ → ℕ
row_index_item table = field table 10 4

unfoldable pub rows_value_of : List ℕ → ℕ
rows_value_of table = field table 14 4

-- "exactly 22 + 8 x columns bytes, byte 0 .. 7C"; "A row has at least one byte"; "rgib[2] over rgib[3] is 23"
unfoldable pub record_fits : List ℕ → Bool
record_fits table =
    eqb (length table) (22 + 8 * column_count table) && eqb (byte table 0) 0x7C && leb 1 (row_size_of table) && leb (existence_start table) (row_size_of table)
