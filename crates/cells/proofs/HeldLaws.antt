-- What holds the rows of a table is accepted exactly when its rule holds. Assumes nothing.
use Prim.Native.Nat.{ℕ}
use mathlib.Core.Path.{◌≡◌, refl, sym, ◌∙◌, subst}
use mathlib.Core.Bool.{Bool, true}
use mathlib.Core.List.{List, [], ◌∷◌}
use mathlib.Core.Logic.{◌↔◌}
use borrow.Author.Tests.{leb-true, le-leb}
use Rattle.refusal.specs.declared.Refusal.{Refusal}
use Rattle.refusal.specs.Order.{◌then◌, rule, in_order, FirstFault}
use Rattle.refusal.proofs.OrderLaws.{goes, ends, demanded, test_goes, then_left, then_right, told_behind, in_order_append}
use Rattle.heap.specs.Items.{Numbered}
use Rattle.heap.proofs.ItemLaws.{number_exactly}
use Rattle.table.specs.declared.Named.{Named}
use Rattle.table.specs.declared.Named.TheVariants.{Nothing, Item, Subnode}
use Rattle.table.specs.Context.{table_record, table_rules, table_test, TableSound}
use Rattle.table.proofs.ContextLaws.{table_exactly}
use Rattle.cells.specs.Rows.{held_rules, Held, rows_named, row_bytes, rows_rules, rows_test, row_count, count_of}
use Rattle.cells.specs.Cells.{cell_in, cell_of}
use Rattle.std.specs.Prelude.{Ok, Err}

-- a single rule
one_holds : (t : Bool) (r : Refusal) → t ≡ true → in_order (rule t r ∷ []) ≡ Ok tt
unfolding in_order
one_holds t r e = test_goes Err t r (Ok tt) e

one_held : (t : Bool) (r : Refusal) → in_order (rule t r ∷ []) ≡ Ok tt → t ≡ true
unfolding in_order
one_held t r e = demanded t r (then_left _ _ e)

module _ (block rows : List ℕ) where
  held : (named : Named) → in_order (held_rules block rows named) ≡ Ok tt → Held block rows named
  unfolding held_rules Held
  held Nothing e = tt
  held (Item item) e = (number_exactly block item).0 (one_held _ _ e)
  held (Subnode subnode) e = leb-true _ _ (one_held _ _ e)

  holds : (named : Named) → Held block rows named → in_order (held_rules block rows named) ≡ Ok tt
  unfolding held_rules Held in_order
  holds Nothing h = refl
  holds (Item item) h = one_holds _ _ ((number_exactly block item).1 h)
  holds (Subnode subnode) h = one_holds _ _ (le-leb _ _ h)

  -- an item that is named
  pub item_named : (named : Named) (item : ℕ) → named ≡ Item item → Held block rows named → Numbered block item
  unfolding Held
  item_named named item e h = subst (Held block rows) e h

  -- the table first
  table_first : rows_test block rows ≡ (table_test block then in_order (held_rules block rows (rows_named block)))
  unfolding rows_test rows_rules table_test
  table_first = in_order_append (table_rules block) (held_rules block rows (rows_named block))

  pub wrong_table : (r : Refusal) → table_test block ≡ Err r → rows_test block rows ≡ table_test block
  wrong_table r e = table_first ∙ ends Err _ _ r e ∙ sym e

  pub right_table : table_test block ≡ Ok tt → rows_test block rows ≡ in_order (held_rules block rows (rows_named block))
  right_table e = table_first ∙ goes Err _ _ e

  -- accepted exactly when the table is sound and its rows are held somewhere
  pub rows_exactly : (rows_test block rows ≡ Ok tt) ↔ (TableSound block × Held block rows (rows_named block))
  rows_exactly = (
    (λ e. let all = sym table_first ∙ e in ((table_exactly block).0 (then_left _ _ all), held (rows_named block) (then_right _ _ all))),
    (λ h. right_table ((table_exactly block).1 h.0) ∙ holds (rows_named block) h.1),
  )

  pub count_on : rows_test block rows ≡ Ok tt → count_of block rows ≡ Ok (row_count (table_record block) (row_bytes block rows))
  unfolding count_of
  count_on e = goes Err _ _ e

  pub cell_on : (row tag : ℕ) → rows_test block rows ≡ Ok tt → cell_of block rows row tag ≡ cell_in block (table_record block) (row_bytes block rows) row tag
  unfolding cell_of
  cell_on row tag e = goes Err _ _ e

  -- the count is refused exactly with the first fault
  pub count_told_exactly : (r : Refusal) → (count_of block rows ≡ Err r) ↔ FirstFault (rows_rules block rows) r
  unfolding count_of rows_test
  count_told_exactly r = told_behind _ _ r
