-- A cell depends on no byte of the rows outside its row, and each column's is found by its tag. Assumes nothing.
use Prim.Native.Nat.{ℕ, ◌<◌}
use mathlib.Core.Path.{◌≡◌, refl, sym, ap, ◌∙◌}
use mathlib.Core.List.{List}
use native.Mathlib.Omega.{arith}
use lib.ListN.{length, get_or}
use Rattle.refusal.specs.Order.{after}
use Rattle.columns.specs.Record.{column_count}
use Rattle.columns.specs.Columns.{column_at, tags}
use Rattle.columns.proofs.SeatLaws.{seat_own}
use Rattle.table.specs.declared.Named.{Named}
use Rattle.table.specs.declared.Named.TheVariants.{Nothing, Item, Subnode}
use Rattle.table.specs.Context.{table_record, TableSound}
use Rattle.cells.specs.Rows.{held_rules, held_bytes, rows_named, row_bytes, rows_rules, rows_test, row_count, row_at}
use Rattle.cells.specs.Cells.{cell_at, cell_in, cell_of}
use Rattle.cells.proofs.HeldLaws.{cell_on}
use Rattle.cells.proofs.CellLaws.{known_tag}
use Rattle.std.specs.Prelude.{Ok, Err}

-- rows' bytes of one length, and the same row in them
module _ (block table one other : List ℕ) (row tag : ℕ) (long : length one ≡ length other) (same : row_at table one row ≡ row_at table other row) where
  pub row_only : cell_in block table one row tag ≡ cell_in block table other row tag
  unfolding cell_in row_count
  row_only = rw (long, same)

-- the caller's rows' block
module _ (block one other : List ℕ) (row tag : ℕ) (long : length one ≡ length other) (same : row_at (table_record block) one row ≡ row_at (table_record block) other row) where
  rules_alike : (n : Named) → held_rules block one n ≡ held_rules block other n
  unfolding held_rules
  rules_alike Nothing = refl
  rules_alike (Item item) = refl
  rules_alike (Subnode subnode) = rw long

  cells_alike : (n : Named) → cell_in block (table_record block) (held_bytes block one n) row tag ≡ cell_in block (table_record block) (held_bytes block other n) row tag
  unfolding held_bytes
  cells_alike Nothing = refl
  cells_alike (Item item) = refl
  cells_alike (Subnode subnode) = row_only block (table_record block) one other row tag long same

  pub cell_within : cell_of block one row tag ≡ cell_of block other row tag
  unfolding cell_of rows_test rows_rules row_bytes
  cell_within = rw (rules_alike (rows_named block)) (ap (after Err _) (cells_alike (rows_named block)))

-- the cell of the i-th column
module _ (block rows : List ℕ) (sound : TableSound block) (held : rows_test block rows ≡ Ok tt) (row : ℕ) (there : row < row_count (table_record block) (row_bytes block rows)) where
  pub cell_own : (i : ℕ) → i < column_count (table_record block)
      → cell_of block rows row (get_or (tags (table_record block)) i 0) ≡ cell_at block (table_record block) (row_at (table_record block) (row_bytes block rows) row) (column_at (table_record block) i)
  cell_own i h =
      cell_on block rows row _ held
      ∙ known_tag block (table_record block) (row_bytes block rows) row (get_or (tags (table_record block)) i 0) i (omega (arith, there)) (sym (seat_own (table_record block) sound.shape sound.columns i h))
