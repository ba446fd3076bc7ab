-- The rules that a cell call tries, in the order in which it tries them. Assumes nothing: these are definitions.
use Rattle.std.specs.Prelude.{ℕ, ◌+◌, Bool, true, cond, not, ◌||◌, List, [], ◌∷◌, ◌++◌, leb, Option, Some, None}
use Rattle.refusal.specs.Order.{Rule, rule}
use Rattle.heap.specs.Items.{item_fits, bad_item}
use Rattle.columns.specs.declared.Column.{Column}
use Rattle.columns.specs.Columns.{column_at, refers, seat_of}
use Rattle.table.specs.declared.Named.{Named}
use Rattle.table.specs.declared.Named.TheVariants.{Nothing, Item, Subnode}
use Rattle.table.specs.Context.{table_record}
use Rattle.table.specs.Says.{named_by}
use Rattle.cells.specs.Rows.{rows_rules, row_bytes, row_count, row_at}
use Rattle.cells.specs.Cells.{exists, stored}

-- what names an item names one that the heap has
unfoldable pub names_fit : List ℕ → Named → Bool
names_fit block Nothing = true
names_fit block (Item item) = item_fits block item
names_fit block (Subnode subnode) = true

module _ (block table row : List ℕ) where
  -- so does a cell that is there and refers to its value
  unfoldable pub cell_fits : Column → Bool
  cell_fits column = not (exists table row column) || not (refers column) || names_fit block (named_by (stored row column))

  -- the rule that is left where the table has the column
  unfoldable pub value_rules : Option ℕ → List Rule
  value_rules (Some i) = rule (cell_fits (column_at table i)) bad_item ∷ []
  value_rules None = []

-- and where there is such a row
unfoldable pub inside_rules : List ℕ → List ℕ → List ℕ → ℕ → ℕ → List Rule
inside_rules block table bytes row tag = cond (leb (row + 1) (row_count table bytes)) (value_rules block table (row_at table bytes row) (seat_of table tag)) []

unfoldable pub cell_rules : List ℕ → List ℕ → ℕ → ℕ → List Rule
cell_rules block rows row tag = rows_rules block rows ++ inside_rules block (table_record block) (row_bytes block rows) row tag
