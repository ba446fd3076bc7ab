-- A cell, case by case. Assumes nothing.
use Prim.Native.Nat.{ℕ, ◌+◌, ◌≤◌, ◌<◌}
use mathlib.Core.Path.{◌≡◌, sym, ap, ◌∙◌}
use mathlib.Core.Bool.{true, false}
use mathlib.Core.List.{List}
use borrow.Author.Tests.{le-leb, lt-leb}
use Rattle.columns.specs.declared.Column.{Column}
use Rattle.columns.specs.Columns.{column_at, refers, seat_of}
use Rattle.table.specs.Says.{named_by}
use Rattle.cells.specs.Rows.{row_count, row_at}
use Rattle.cells.specs.Cells.{exists, named_cell, stored, cell_at, cell_by, cell_in}
use Rattle.std.specs.Prelude.{Some, None, Ok}
use Rattle.cells.specs.declared.Cell.TheVariants.{Missing, Number}

module _ (block table row : List ℕ) (column : Column) where
  pub cell_missing : exists table row column ≡ false → cell_at block table row column ≡ Ok (Some Missing)
  unfolding cell_at
  cell_missing e = rw e

  pub cell_number : exists table row column ≡ true → refers column ≡ false → cell_at block table row column ≡ Ok (Some (Number (stored row column)))
  unfolding cell_at
  cell_number e r = rw (e, r)

  pub cell_named : exists table row column ≡ true → refers column ≡ true → cell_at block table row column ≡ named_cell block (named_by (stored row column))
  unfolding cell_at
  cell_named e r = rw (e, r)

module _ (block table bytes : List ℕ) (row tag : ℕ) where
  pub past_the_end : row_count table bytes < row + 1 → cell_in block table bytes row tag ≡ Ok None
  unfolding cell_in
  past_the_end h = rw (lt-leb (row + 1) (row_count table bytes) h)

  pub in_row : row + 1 ≤ row_count table bytes → cell_in block table bytes row tag ≡ cell_by block table (row_at table bytes row) (seat_of table tag)
  unfolding cell_in
  in_row h = rw (le-leb (row + 1) (row_count table bytes) h)

  pub unknown_tag : row + 1 ≤ row_count table bytes → None ≡ seat_of table tag → cell_in block table bytes row tag ≡ Ok None
  unfolding cell_by
  unknown_tag h e = in_row h ∙ ap (cell_by block table (row_at table bytes row)) (sym e)

  pub known_tag : (i : ℕ) → row + 1 ≤ row_count table bytes → Some i ≡ seat_of table tag → cell_in block table bytes row tag ≡ cell_at block table (row_at table bytes row) (column_at table i)
  unfolding cell_by
  known_tag i h e = in_row h ∙ ap (cell_by block table (row_at table bytes row)) (sym e)
