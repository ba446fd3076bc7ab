-- Document 02, 5/13: "the row index", of a table of either edition. Assumes nothing: these are definitions.
use Rattle.std.specs.Prelude.{ℕ, ◌≤◌, ◌≡◌, ◌↔◌, List, ◌++◌, map, Option, Some, None, Result, Ok, Err}
use Rattle.le.specs.Bytes.{field}
use Rattle.refusal.specs.declared.Fault.TheVariants.{TableShape}
use Rattle.refusal.specs.Order.{Verdict, Rule, in_order, after}
use Rattle.keys.specs.Plain.{Ascending, Missing}
use Rattle.keys.specs.Search.{with_key}
use Rattle.search.specs.Answer.{Answer, answer}
use Rattle.heaptree.specs.declared.HeapTree.{HeapTree}
use Rattle.heaptree.specs.Value.{record_key}
use Rattle.heaptree.specs.Root.{root_rules}
use Rattle.heaptree.specs.Lookup.{from_root, path_rules, by_case}
use Rattle.heaptree.specs.Sound.{HeapTreeSound}
use Rattle.heaptree.specs.Scan.{leaf_records}
use Rattle.columns.specs.Record.{row_index_item}
use Rattle.table.specs.Context.{table_record, table_rules, TableSound}
use Rattle.refusal.specs.declared.Refusal.{Refusal}

-- "Row index tree: B5, key 4, entry .., levels 0 to 3; wrong shapes 23, wrong item numbers 19"
abbrev pub row_index_of : ℕ → HeapTree
row_index_of entry = record { key = 4; entry = entry; fault = TableShape }

-- "cbKey is set to 4 and cEnt is set to 4"; of a 32-bit file "cbKey is set to 4 and cEnt is set to 2" (003, 2.3.4.3.1)
abbrev pub row_index : HeapTree
row_index = row_index_of 4

abbrev pub row_index32 : HeapTree
row_index32 = row_index_of 2

module _ (tree : HeapTree) where
  -- a key that fits a machine word, and a row number that fits four bytes
  abbrev pub FairIndex : Type 0
  FairIndex = (1 ≤ tree.key) × (tree.key ≤ 8) × (tree.entry ≤ 4)

  -- the id of a leaf record; "the row number is answered as stored"
  abbrev pub row_id : List ℕ → ℕ
  row_id entry = record_key tree entry

  abbrev pub row_from : Answer (List ℕ) → Result (Option ℕ) Refusal
  row_from answer = by_case (λ entry. Ok (Some (field entry tree.key tree.entry))) (Ok None) Err answer

-- the item from which it starts
abbrev pub index_root : List ℕ → ℕ
index_root block = row_index_item (table_record block)

module _ (tree : HeapTree) (block : List ℕ) where
  -- all before the tree's items: the table, then the record of the row index
  unfoldable pub index_test : Verdict
  index_test = in_order (table_rules block ++ root_rules tree block (index_root block))

  -- all rules that the lookup tries, in the order in which it tries them
  unfoldable pub row_rules : ℕ → List Rule
  row_rules id = (table_rules block ++ root_rules tree block (index_root block)) ++ path_rules tree block (index_root block) id

  -- "root 0 absent"
  unfoldable pub row_of : ℕ → Result (Option ℕ) Refusal
  row_of id = after Err index_test (row_from tree (from_root tree block (index_root block) id))

  -- a table whose whole row index is sound
  pub record IndexSound : Type 0 where
    pub table : TableSound block
    pub index : HeapTreeSound tree block (index_root block)

  -- all leaf records
  abbrev pub row_records : List (List ℕ)
  row_records = leaf_records tree block (index_root block)

  -- what holds of every lookup in a sound row index
  pub record RowAsScanned : Type 0 where
    -- it answers for the leaf record that a plain scan of all leaf records finds
    pub answers : (id : ℕ) → row_of id ≡ row_from tree (answer (with_key (row_id tree) id row_records) 0)
    -- that is the only one with the id, since the ids of the leaf records strictly ascend
    pub ascending : Ascending (map (row_id tree) row_records)
    -- absent exactly when no leaf record has the id
    pub absent_iff : (id : ℕ) → (row_of id ≡ Ok None) ↔ Missing id (map (row_id tree) row_records)

-- a table whose whole row index is sound, whatever its sizes, is answered as by the plain scan
abbrev pub RowScanHolds : Type 0
RowScanHolds = (tree : HeapTree) (block : List ℕ) → IndexSound tree block → RowAsScanned tree block
