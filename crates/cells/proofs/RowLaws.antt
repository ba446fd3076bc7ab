-- A row lies in the rows' bytes. Assumes nothing.
use Prim.Native.Nat.{ℕ, ◌+◌, ◌*◌, ◌/◌, ◌≤◌, ◌<◌}
use mathlib.Core.Path.{◌≡◌}
use mathlib.Core.List.{List}
use native.Mathlib.Nat.{div-mul-le_self}
use lib.ListN.{length}
use Rattle.le.proofs.FieldLaws.{part_length}
use Rattle.keys.proofs.RecordLaws.{record_inside}
use Rattle.columns.specs.Record.{row_size_of}
use Rattle.cells.specs.Rows.{row_count, row_at}

module _ (table bytes : List ℕ) (row : ℕ) (there : row < row_count table bytes) where
  pub row_inside : row * row_size_of table + row_size_of table ≤ length bytes
  unfolding row_count
  row_inside = record_inside (length bytes / row_size_of table) (row_size_of table) row (length bytes) (div-mul-le_self (length bytes) (row_size_of table)) there

  pub row_length : length (row_at table bytes row) ≡ row_size_of table
  unfolding row_at
  row_length = part_length bytes (row * row_size_of table) (row_size_of table) row_inside
