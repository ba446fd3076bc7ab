use Rattle.std.proofs.Common.{sym, ap, ◌∙◌, rules}
use Rattle.refusal.specs.Order.{in_order}
use Rattle.table.proofs.ContextLaws.{table_exactly}
use Rattle.cells.specs.Rows.{held_rules}
use Rattle.cells.proofs.HeldLaws.{wrong_table, right_table}
use Rattle.cells.proofs.test_rows.Goals as goal

pub returns-in_err-test_table : goal.returns-in_err-test_table
returns-in_err-test_table c = rw (wrong_table c.args.block.now c.args.rows.now _ (sym c.in_err-test_table.ensures)) (search rules)

pub rows_named-requires : goal.rows_named-requires
rows_named-requires c = (table_exactly _).0 (sym c.in_ok-test_table.ensures)

pub check_held-requires : goal.check_held-requires
check_held-requires c = ((table_exactly _).0 (sym c.in_ok-test_table.ensures)).heap

pub returns : goal.returns
returns c =
    let a = c.args in
    c.check_held.ensures ∙ ap (λ named. in_order (held_rules a.block.now a.rows.now named)) c.rows_named.ensures
    ∙ sym (right_table _ _ (sym c.in_ok-test_table.ensures))
