-- A table is accepted exactly when each rule holds. Assumes nothing.
use Prim.Native.Nat.{ℕ, ◌≤◌}
use mathlib.Core.Path.{◌≡◌, refl, sym, ◌∙◌}
use mathlib.Core.Bool.{true, false}
use mathlib.Core.List.{List}
use mathlib.Core.Logic.{◌↔◌}
use native.Mathlib.Omega.{arith}
use lib.Dec.{eqb}
use lib.ListN.{length}
use borrow.Author.Tests.{eqb-true, eq-eqb, ne_eqb}
use Rattle.refusal.specs.declared.Refusal.{Refusal}
use Rattle.refusal.specs.Order.{Verdict, ◌then◌, demand, in_order, FirstFault}
use Rattle.refusal.proofs.OrderLaws.{goes, ends, demanded, test_goes, test_ends, then_left, then_right, refused_exactly, in_order_append}
use Rattle.heap.specs.Shape.{client_kind, user_root, shape_rules, heap_test}
use Rattle.heap.specs.Items.{item_fits, bad_item}
use Rattle.heap.proofs.ShapeLaws.{heap_exactly}
use Rattle.heap.proofs.ItemLaws.{number_exactly, item_lies}
use Rattle.columns.specs.Record.{record_fits}
use Rattle.columns.specs.Columns.{columns_fit}
use Rattle.columns.proofs.RecordLaws.{record_exactly}
use Rattle.columns.proofs.ColumnLaws.{columns_exactly}
use Rattle.table.specs.Context.{bad_table, table_record, context_rules, table_rules, table_test, TableSound}
use Rattle.std.specs.Prelude.{Ok, Err}

module _ (block : List ℕ) where
  -- what is left to test from the record on, and from the columns on
  abbrev columns_last : Verdict
  columns_last = demand (columns_fit (table_record block)) bad_table then Ok tt

  abbrev record_then : Verdict
  record_then = demand (record_fits (table_record block)) bad_table then columns_last

  abbrev root_then : Verdict
  root_then = demand (item_fits block (user_root block)) bad_item then record_then

  kind_first : in_order (context_rules block) ≡ (demand (eqb (client_kind block) 0x7C) bad_table then root_then)
  unfolding context_rules in_order
  kind_first = refl

  pub wrong_kind : (client_kind block ≡ 0x7C → ⊥) → in_order (context_rules block) ≡ Err bad_table
  wrong_kind n = kind_first ∙ test_ends Err _ _ _ (ne_eqb _ _ n)

  module _ (kind : client_kind block ≡ 0x7C) where
    right_kind : in_order (context_rules block) ≡ root_then
    right_kind = kind_first ∙ test_goes Err _ _ _ (eq-eqb _ _ kind)

    pub wrong_root : item_fits block (user_root block) ≡ false → in_order (context_rules block) ≡ Err bad_item
    wrong_root n = right_kind ∙ test_ends Err _ _ record_then n

    module _ (named : item_fits block (user_root block) ≡ true) where
      right_root : in_order (context_rules block) ≡ record_then
      right_root = right_kind ∙ test_goes Err _ _ record_then named

      pub wrong_record : record_fits (table_record block) ≡ false → in_order (context_rules block) ≡ Err bad_table
      wrong_record n = right_root ∙ test_ends Err _ _ columns_last n

      module _ (fits : record_fits (table_record block) ≡ true) where
        right_record : in_order (context_rules block) ≡ columns_last
        right_record = right_root ∙ test_goes Err _ _ columns_last fits

        pub wrong_columns : columns_fit (table_record block) ≡ false → in_order (context_rules block) ≡ Err bad_table
        wrong_columns n = right_record ∙ test_ends Err _ _ (Ok tt) n

        pub right_columns : columns_fit (table_record block) ≡ true → in_order (context_rules block) ≡ Ok tt
        right_columns e = right_record ∙ test_goes Err _ _ (Ok tt) e

  -- the heap's shape before them
  shape_first : table_test block ≡ (heap_test block then in_order (context_rules block))
  unfolding table_test table_rules heap_test
  shape_first = in_order_append (shape_rules block) (context_rules block)

  pub wrong_shape : (r : Refusal) → heap_test block ≡ Err r → table_test block ≡ heap_test block
  wrong_shape r e = shape_first ∙ ends Err _ _ r e ∙ sym e

  pub right_shape : heap_test block ≡ Ok tt → table_test block ≡ in_order (context_rules block)
  right_shape e = shape_first ∙ goes Err _ _ e

  says : table_test block ≡ Ok tt → TableSound block
  says e =
      let all = sym shape_first ∙ e in
      let kind = sym kind_first ∙ then_right _ _ all in
      let root = then_right _ _ kind in
      let whole = then_right _ _ root in
      record {
        heap = (heap_exactly block).0 (then_left _ _ all);
        kind = eqb-true _ _ (demanded _ _ (then_left _ _ kind));
        named = (number_exactly block (user_root block)).0 (demanded _ _ (then_left _ _ root));
        shape = (record_exactly (table_record block)).0 (demanded _ _ (then_left _ _ whole));
        columns = (columns_exactly (table_record block)).0 (demanded _ _ (then_left _ _ (then_right _ _ whole)));
      }

  said_so : TableSound block → table_test block ≡ Ok tt
  said_so s =
      right_shape ((heap_exactly block).1 s.heap)
      ∙ right_columns s.kind ((number_exactly block (user_root block)).1 s.named) ((record_exactly (table_record block)).1 s.shape) ((columns_exactly (table_record block)).1 s.columns)

  -- the theorem: accepted exactly when each rule holds
  pub table_exactly : (table_test block ≡ Ok tt) ↔ TableSound block
  table_exactly = (says, said_so)

  -- and refused exactly with the first rule that is broken
  pub table_refused_exactly : (r : Refusal) → (table_test block ≡ Err r) ↔ FirstFault (table_rules block) r
  unfolding table_test
  table_refused_exactly r = refused_exactly (table_rules block) r

  -- the record of a sound table has its fields
  pub record_long : TableSound block → 22 ≤ length (table_record block)
  record_long s = omega (arith, s.shape.whole)

  -- and lies in the block
  pub record_short : TableSound block → length (table_record block) ≤ 8180
  unfolding table_record
  record_short s = let lies = item_lies block s.heap (user_root block) s.named in omega (arith, lies.inside, lies.whole, s.heap.short)
