-- What is said of a table and of a column is refused exactly with the first fault of the table's rules. Assumes nothing.
use Prim.Native.Nat.{ℕ, ◌+◌, ◌≤◌, ◌<◌}
use mathlib.Core.Path.{◌≡◌}
use mathlib.Core.Logic.{◌↔◌}
use mathlib.Core.List.{List}
use borrow.Author.Tests.{le-leb, lt-leb}
use Rattle.refusal.specs.declared.Refusal.{Refusal}
use Rattle.refusal.specs.Order.{FirstFault}
use Rattle.refusal.proofs.OrderLaws.{told_behind}
use Rattle.columns.specs.Record.{column_count}
use Rattle.columns.specs.Columns.{column_at}
use Rattle.table.specs.Context.{table_rules, table_test}
use Rattle.table.specs.Says.{table_of, column_in, column_of}
use Rattle.std.specs.Prelude.{Option, Some, None, Result, Ok, Err}
use Rattle.columns.specs.declared.Column.{Column}

-- a column past the last, and one that is there
module _ (table : List ℕ) (index : ℕ) where
  abbrev answered : Result (Option Column) Refusal
  answered = Ok (column_in table index)

  pub column_past : column_count table < index + 1 → answered ≡ Ok None
  unfolding column_in
  column_past h = rw (lt-leb (index + 1) (column_count table) h)

  pub column_there : index + 1 ≤ column_count table → answered ≡ Ok (Some (column_at table index))
  unfolding column_in
  column_there h = rw (le-leb (index + 1) (column_count table) h)

module _ (block : List ℕ) where
  pub table_told_exactly : (r : Refusal) → (table_of block ≡ Err r) ↔ FirstFault (table_rules block) r
  unfolding table_of table_test
  table_told_exactly r = told_behind _ _ r

  pub column_told_exactly : (index : ℕ) (r : Refusal) → (column_of block index ≡ Err r) ↔ FirstFault (table_rules block) r
  unfolding column_of table_test
  column_told_exactly index r = told_behind _ _ r
