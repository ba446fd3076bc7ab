-- What comes before the items of a row index; and what is answered for a table, a column and a row. Assumes nothing.
use Prim.Native.Nat.{ℕ, ◌+◌, ◌^◌, ◌≤◌}
use mathlib.Core.Path.{◌≡◌, sym, ap, ◌∙◌}
use mathlib.Core.List.{List}
use mathlib.Core.Logic.{◌↔◌}
use Rattle.le.specs.Bytes.{part, field}
use Rattle.le.proofs.FieldLaws.{field_part}
use native.Mathlib.Nat.{pow-le-pow_right, zero-lt-suc}
use native.Mathlib.Omega.{arith}
use Rattle.refusal.specs.declared.Refusal.{Refusal}
use Rattle.refusal.specs.Order.{◌then◌, in_order}
use Rattle.refusal.proofs.OrderLaws.{goes, ends, then_left, then_right, in_order_append}
use Rattle.heaptree.specs.declared.HeapTree.{HeapTree}
use Rattle.heaptree.specs.Root.{root_rules, Rooted}
use Rattle.heaptree.specs.Lookup.{from_root}
use Rattle.heaptree.proofs.RootLaws.{root_exactly}
use Rattle.table.specs.Context.{table_record, table_rules, table_test, TableSound}
use Rattle.table.specs.Says.{table_in, table_of, column_in, column_of}
use Rattle.table.specs.RowIndex.{FairIndex, row_from, index_root, index_test, row_of}
use Rattle.table.proofs.ContextLaws.{table_exactly}
use Rattle.std.specs.Prelude.{Option, Some, Result, Ok, Err}

module _ (block : List ℕ) where
  pub table_on : table_test block ≡ Ok tt → table_of block ≡ Ok (table_in (table_record block))
  unfolding table_of
  table_on e = goes Err _ _ e

  pub column_refused : (index : ℕ) (r : Refusal) → table_test block ≡ Err r → column_of block index ≡ Err r
  unfolding column_of
  column_refused index r e = ends Err _ _ r e

  pub column_on : (index : ℕ) → table_test block ≡ Ok tt → column_of block index ≡ Ok (column_in (table_record block) index)
  unfolding column_of
  column_on index e = goes Err _ _ e

-- the row numbers of a fair row index fit four bytes
pub number_fits_lem : (tree : HeapTree) → FairIndex tree → 256 ^ tree.entry ≤ 4294967296
number_fits_lem tree fair = pow-le-pow_right {n = 256} (zero-lt-suc 255) fair.2

module _ (tree : HeapTree) (block : List ℕ) where
  table_first : index_test tree block ≡ (table_test block then in_order (root_rules tree block (index_root block)))
  unfolding index_test table_test
  table_first = in_order_append (table_rules block) (root_rules tree block (index_root block))

  pub wrong_table : (r : Refusal) → table_test block ≡ Err r → index_test tree block ≡ table_test block
  wrong_table r e = table_first ∙ ends Err _ _ r e ∙ sym e

  pub right_table : table_test block ≡ Ok tt → index_test tree block ≡ in_order (root_rules tree block (index_root block))
  right_table e = table_first ∙ goes Err _ _ e

  -- accepted exactly when the table is sound and its row index starts with a good record
  pub index_exactly : (index_test tree block ≡ Ok tt) ↔ (TableSound block × Rooted tree block (index_root block))
  index_exactly = (
    (λ e. let all = sym table_first ∙ e in ((table_exactly block).0 (then_left _ _ all), (root_exactly tree block (index_root block)).0 (then_right _ _ all))),
    (λ h. right_table ((table_exactly block).1 h.0) ∙ (root_exactly tree block (index_root block)).1 h.1),
  )

  pub row_on : (id : ℕ) → index_test tree block ≡ Ok tt → row_of tree block id ≡ row_from tree (from_root tree block (index_root block) id)
  unfolding row_of
  row_on id e = goes Err _ _ e

  -- the row number in the leaf record at a place
  pub row_at_lem : (place : ℕ) → ◌≡◌ {A = Result (Option ℕ) Refusal} (Ok (Some (field block (place + tree.key) tree.entry))) (Ok (Some (field (part block place (tree.key + tree.entry)) tree.key tree.entry)))
  row_at_lem place = ap (λ n. Ok (Some n)) (sym (field_part block place (tree.key + tree.entry) tree.key tree.entry (omega arith)))
