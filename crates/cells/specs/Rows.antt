-- Document 02, 5/13: what holds the rows of a table, and how many there are. Assumes nothing: these are definitions.
use Rattle.std.specs.Prelude.{ℕ, ◌*◌, ◌/◌, ◌≤◌, List, [], ◌∷◌, ◌++◌, leb, length, Result, Ok, Err}
use Rattle.le.specs.Bytes.{part}
use Rattle.refusal.specs.Order.{Verdict, Rule, rule, in_order, after}
use Rattle.heap.specs.Items.{item_fits, Numbered, bad_item, item_part}
use Rattle.columns.specs.Record.{row_size_of, rows_value_of}
use Rattle.table.specs.declared.Named.{Named}
use Rattle.table.specs.declared.Named.TheVariants.{Nothing, Item, Subnode}
use Rattle.table.specs.Context.{bad_table, table_record, table_rules}
use Rattle.table.specs.Says.{named_by}
use Rattle.refusal.specs.declared.Refusal.{Refusal}

-- what names the rows
abbrev pub rows_named : List ℕ → Named
rows_named block = named_by (rows_value_of (table_record block))

-- "Rows 0: no rows; low five bits zero: a heap item (19 if wrong); else the caller's block of that subnode", of at most 8,180 bytes
module _ (block rows : List ℕ) where
  unfoldable pub held_rules : Named → List Rule
  held_rules Nothing = []
  held_rules (Item item) = rule (item_fits block item) bad_item ∷ []
  held_rules (Subnode subnode) = rule (leb (length rows) 8180) bad_table ∷ []

  -- the same as plain facts
  unfoldable pub Held : Named → Type 0
  Held Nothing = Unit {0}
  Held (Item item) = Numbered block item
  Held (Subnode subnode) = length rows ≤ 8180

  unfoldable pub held_bytes : Named → List ℕ
  held_bytes Nothing = []
  held_bytes (Item item) = item_part block item
  held_bytes (Subnode subnode) = rows

  unfoldable pub row_bytes : List ℕ
  row_bytes = held_bytes (rows_named block)

  -- the table, then what holds its rows
  unfoldable pub rows_rules : List Rule
  rows_rules = table_rules block ++ held_rules (rows_named block)

  unfoldable pub rows_test : Verdict
  rows_test = in_order rows_rules

-- "There are as many rows as whole rows fit the rows' bytes"
unfoldable pub row_count : List ℕ → List ℕ → ℕ
row_count table bytes = length bytes / row_size_of table

-- the bytes of a row
unfoldable pub row_at : List ℕ → List ℕ → ℕ → List ℕ
row_at table bytes row = part bytes (row * row_size_of table) (row_size_of table)

unfoldable pub count_of : List ℕ → List ℕ → Result ℕ Refusal
count_of block rows = after Err (rows_test block rows) (Ok (row_count (table_record block) (row_bytes block rows)))
