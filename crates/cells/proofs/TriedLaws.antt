-- A cell is refused exactly with the first fault of the rules that its call tries, and answered exactly when each of them holds. Assumes nothing.
use Prim.Native.Nat.{ℕ, ◌+◌}
use mathlib.Core.Path.{◌≡◌, refl, sym, ap, ◌∙◌}
use mathlib.Core.Bool.{Bool, true, false, cond, not, ◌||◌}
use mathlib.Core.Logic.{◌↔◌}
use mathlib.Core.List.{List, [], ◌∷◌}
use lib.Dec.{leb}
use Rattle.refusal.specs.declared.Refusal.{Refusal}
use Rattle.refusal.specs.Order.{Verdict, rule, in_order, demand, after, ◌then◌, AllHold, FirstFault}
use Rattle.refusal.proofs.OrderLaws.{in_order_append, refusal_in, refusal_after, answered_exactly, told_exactly}
use Rattle.heap.specs.Items.{item_fits, bad_item}
use Rattle.columns.specs.declared.Column.{Column}
use Rattle.columns.specs.Columns.{column_at, refers, seat_of}
use Rattle.table.specs.declared.Named.{Named}
use Rattle.table.specs.declared.Named.TheVariants as named
use Rattle.table.specs.Context.{table_record}
use Rattle.table.specs.Says.{named_by}
use Rattle.cells.specs.Rows.{rows_rules, rows_test, row_bytes, row_count, row_at}
use Rattle.cells.specs.Cells.{exists, named_cell, stored, cell_at, cell_by, cell_in, cell_of}
use Rattle.cells.specs.Tried.{names_fit, cell_fits, value_rules, inside_rules, cell_rules}
use Rattle.std.specs.Prelude.{Option, Some, None, Ok, Err}
use Rattle.cells.specs.declared.Cell.TheVariants.{Item, Missing, Number}

module _ (block table row : List ℕ) where
  item_tried : (item : ℕ) (there : Bool) → (demand there bad_item then Ok tt) ≡ refusal_in (after Err (demand there bad_item) (Ok (Some (Item item))))
  unfolding demand after refusal_in
  item_tried item true = refl
  item_tried item false = refl

  named_tried : (n : Named) → (demand (names_fit block n) bad_item then Ok tt) ≡ refusal_in (named_cell block n)
  unfolding names_fit named_cell demand after refusal_in
  named_tried named.Nothing = refl
  named_tried (named.Item item) = item_tried item (item_fits block item)
  named_tried (named.Subnode subnode) = refl

  by_case_lem : (there reference : Bool) (n : Named) (value : ℕ)
      → (demand (not there || not reference || names_fit block n) bad_item then Ok tt) ≡ refusal_in (cond there (cond reference (named_cell block n) (Ok (Some (Number value)))) (Ok (Some Missing)))
  unfolding demand after refusal_in
  by_case_lem false reference n value = refl
  by_case_lem true false n value = refl
  by_case_lem true true n value = named_tried n

  value_tried : (column : Column) → in_order (rule (cell_fits block table row column) bad_item ∷ []) ≡ refusal_in (cell_at block table row column)
  unfolding cell_fits cell_at in_order
  value_tried column = by_case_lem (exists table row column) (refers column) (named_by (stored row column)) (stored row column)

  seat_tried : (s : Option ℕ) → in_order (value_rules block table row s) ≡ refusal_in (cell_by block table row s)
  unfolding value_rules cell_by in_order refusal_in
  seat_tried (Some i) = value_tried (column_at table i)
  seat_tried None = refl

inside_tried : (block table bytes : List ℕ) (row tag : ℕ) → in_order (inside_rules block table bytes row tag) ≡ refusal_in (cell_in block table bytes row tag)
unfolding inside_rules cell_in in_order refusal_in
inside_tried block table bytes row tag = by (leb (row + 1) (row_count table bytes))
  where
    by : (there : Bool) → in_order (cond there (value_rules block table (row_at table bytes row) (seat_of table tag)) []) ≡ refusal_in (cond there (cell_by block table (row_at table bytes row) (seat_of table tag)) (Ok None))
    by true = seat_tried block table (row_at table bytes row) (seat_of table tag)
    by false = refl

module _ (block rows : List ℕ) (row tag : ℕ) where
  cell_tried : in_order (cell_rules block rows row tag) ≡ refusal_in (cell_of block rows row tag)
  unfolding cell_rules cell_of rows_test
  cell_tried =
      let inside = inside_rules block (table_record block) (row_bytes block rows) row tag in
      in_order_append (rows_rules block rows) inside
      ∙ ap (λ (v : Verdict). in_order (rows_rules block rows) then v) (inside_tried block (table_record block) (row_bytes block rows) row tag)
      ∙ sym (refusal_after (in_order (rows_rules block rows)) (cell_in block (table_record block) (row_bytes block rows) row tag))

  -- answered exactly when each rule holds
  pub cell_answered_exactly : (refusal_in (cell_of block rows row tag) ≡ Ok tt) ↔ AllHold (cell_rules block rows row tag)
  cell_answered_exactly = answered_exactly _ _ cell_tried

  -- refused exactly with the first fault
  pub cell_refused_exactly : (r : Refusal) → (cell_of block rows row tag ≡ Err r) ↔ FirstFault (cell_rules block rows row tag) r
  cell_refused_exactly r = told_exactly _ _ cell_tried r
