-- Document 02, 5/13: what is tested of a table before what a call is about. Assumes nothing: these are definitions.
use Rattle.std.specs.Prelude.{ℕ, ◌≡◌, List, [], ◌∷◌, ◌++◌, eqb}
use Rattle.refusal.specs.declared.Refusal.{Refusal}
use Rattle.refusal.specs.declared.Fault.TheVariants.{TableShape}
use Rattle.refusal.specs.Order.{Verdict, ◌at◌, Rule, rule, in_order}
use Rattle.heap.specs.Shape.{client_kind, user_root, shape_rules, Heap}
use Rattle.heap.specs.Items.{item_fits, Numbered, bad_item, item_part}
use Rattle.columns.specs.Record.{record_fits}
use Rattle.columns.specs.Columns.{columns_fit}
use Rattle.columns.specs.Sound.{RecordSound, ColumnsSound}

-- "any other wrong shape is 23, place 0"
abbrev pub bad_table : Refusal
bad_table = TableShape at 0

-- the table record: the item that the user root names
unfoldable pub table_record : List ℕ → List ℕ
table_record block = item_part block (user_root block)

-- "heap, kind, record, all columns"
unfoldable pub context_rules : List ℕ → List Rule
context_rules block =
    rule (eqb (client_kind block) 0x7C) bad_table
    ∷ rule (item_fits block (user_root block)) bad_item
    ∷ rule (record_fits (table_record block)) bad_table
    ∷ rule (columns_fit (table_record block)) bad_table
    ∷ []

unfoldable pub table_rules : List ℕ → List Rule
table_rules block = shape_rules block ++ context_rules block

unfoldable pub table_test : List ℕ → Verdict
table_test block = in_order (table_rules block)

-- the same rules as plain facts, with no order among them
pub record TableSound (block : List ℕ) : Type 0 where
  pub heap : Heap block
  pub kind : client_kind block ≡ 0x7C
  pub named : Numbered block (user_root block)
  pub shape : RecordSound (table_record block)
  pub columns : ColumnsSound (table_record block)
