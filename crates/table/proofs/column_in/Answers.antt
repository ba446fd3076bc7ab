use mathlib.Core.Path.{ap, ◌∙◌}
use Prim.Native.Nat.{ℕ, ◌+◌}
use native.Mathlib.Omega.{arith}
use mathlib.Core.List.{List}
use borrow.Author.Tests.{le-leb, lt-leb}
use Rattle.columns.specs.Record.{column_count}
use Rattle.columns.specs.Columns.{column_at}
use Rattle.table.specs.Context.{table_record}
use Rattle.table.specs.Says.{column_in}
use Rattle.table.proofs.column_in.Goals as goal
use Rattle.std.specs.Prelude.{Some}

pub returns-then-column_count-i : goal.returns-then-column_count-i
unfolding column_in
returns-then-column_count-i c =
    let a = c.args in
    let told = c.column_count.ensures.0 ∙ ap column_count c.record_of-table.ensures in
    rw (lt-leb (a.index + 1) (column_count (table_record a.block.now)) (omega (arith, told)))

pub returns : goal.returns
unfolding column_in
returns c =
    let a = c.args in
    let told = c.column_count.ensures.0 ∙ ap column_count c.record_of-table.ensures in
    rw (le-leb (a.index + 1) (column_count (table_record a.block.now)) (omega (arith, told)))
    (ap Some (c.column_at.ensures.0 ∙ ap (λ (s : List ℕ). column_at s a.index) c.record_of-table.ensures))
