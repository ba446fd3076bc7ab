use Rattle.std.proofs.Common.{sym, ap, ◌∙◌, rules}
use Rattle.refusal.specs.Order.{in_order}
use Rattle.heaptree.specs.Root.{root_rules}
use Rattle.columns.specs.Record.{row_index_item}
use Rattle.table.specs.Context.{TableSound}
use Rattle.table.proofs.ContextLaws.{table_exactly, record_long}
use Rattle.table.proofs.IndexLaws.{wrong_table, right_table}
use Rattle.table.proofs.test_index.Goals as goal
use Rattle.table.proofs.test_index.Goals.{In_ok-test_table}

sound : (c : In_ok-test_table) → TableSound c.args.block.now
sound c = (table_exactly _).0 (sym c.in_ok-test_table.ensures)

pub returns-in_err-test_table : goal.returns-in_err-test_table
returns-in_err-test_table c = rw (wrong_table c.args.tree c.args.block.now _ (sym c.in_err-test_table.ensures)) (search rules)

pub record_of-requires : goal.record_of-requires
record_of-requires c = sound (goal.at.record_of-requires c).In_ok-test_table

pub row_index_item-root-requires : goal.row_index_item-root-requires
row_index_item-root-requires c = rw c.record_of.ensures (record_long _ (sound (goal.at.row_index_item-root-requires c).In_ok-test_table))

pub check_root-requires : goal.check_root-requires
check_root-requires c = (sound (goal.at.check_root-requires c).In_ok-test_table).heap

pub returns : goal.returns
returns c =
    let a = c.args in
    c.check_root.ensures
    ∙ ap (λ root. in_order (root_rules a.tree a.block.now root)) (c.row_index_item-root.ensures ∙ ap row_index_item c.record_of.ensures)
    ∙ sym (right_table a.tree a.block.now (sym c.in_ok-test_table.ensures))
