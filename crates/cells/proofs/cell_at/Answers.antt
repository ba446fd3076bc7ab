use mathlib.Core.Path.{sym, ap, ◌∙◌}
use Rattle.laws.proofs.Tests.{fails, holds}
use Rattle.table.specs.Says.{named_by}
use Rattle.cells.specs.Cells.{named_cell, stored}
use Rattle.cells.proofs.CellLaws.{cell_missing, cell_number, cell_named}
use Rattle.cells.proofs.cell_at.Goals as goal
use Rattle.std.specs.Prelude.{Some, Ok}
use Rattle.cells.specs.declared.Cell.TheVariants.{Number}

pub returns-then-not-has_cell : goal.returns-then-not-has_cell
returns-then-not-has_cell c = sym (cell_missing _ _ _ _ (fails _ _ c.has_cell.ensures c.if-not-has_cell.true))

pub returns-then-refers : goal.returns-then-refers
unfolding stored
returns-then-refers c =
    let a = c.args in
    c.named_cell.ensures
    ∙ ap (named_cell a.block.now) (c.named_by.ensures ∙ ap named_by c.field_of-stored.ensures.0)
    ∙ sym (cell_named a.block.now a.table.now a.row.now a.column (holds _ _ c.has_cell.ensures c.if-not-has_cell.false) (sym c.refers.ensures ∙ c.if-refers.true))

pub returns : goal.returns
unfolding stored
returns c =
    let a = c.args in
    ap (λ n. Ok (Some (Number n))) c.field_of-stored.ensures.0
    ∙ sym (cell_number a.block.now a.table.now a.row.now a.column (holds _ _ c.has_cell.ensures c.if-not-has_cell.false) (sym c.refers.ensures ∙ c.if-refers.false))
