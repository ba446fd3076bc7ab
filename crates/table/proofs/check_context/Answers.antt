use Rattle.std.proofs.Common.{◌≡◌, true, sym, ap, ◌∙◌}
use Rattle.laws.proofs.Tests.{fails, holds}
use Rattle.heap.specs.Shape.{client_kind, user_root}
use Rattle.heap.specs.Items.{item_fits, item_part}
use Rattle.heap.proofs.ItemLaws.{number_exactly}
use Rattle.columns.specs.Record.{record_fits}
use Rattle.columns.specs.Columns.{columns_fit}
use Rattle.columns.proofs.RecordLaws.{record_exactly}
use Rattle.table.specs.Context.{table_record}
use Rattle.table.proofs.ContextLaws.{wrong_kind, wrong_root, wrong_record, wrong_columns, right_columns}
use Rattle.table.proofs.check_context.Goals as goal
use Rattle.table.proofs.check_context.Goals.{After-part_of-table}

-- what was tested before the record was read, and that it is the table's
read : (c : After-part_of-table) → (let block = c.args.block.now in (client_kind block ≡ 0x7C) × (item_fits block (user_root block) ≡ true) × (c.part_of-table.result.now ≡ table_record block))
unfolding table_record
read c =
    let block = c.args.block.now in
    let root = c.user_root-root.ensures in (
      sym c.client_kind.ensures ∙ c.if-client_kind-ne124.false,
      sym (ap (item_fits block) root) ∙ holds _ _ c.item_fits.ensures c.if-not-item_fits.false,
      c.part_of-table.ensures ∙ ap (item_part block) root,
    )

pub returns-then-client_kind-ne124 : goal.returns-then-client_kind-ne124
returns-then-client_kind-ne124 c = c.refused_at.ensures ∙ sym (wrong_kind _ (λ e. c.if-client_kind-ne124.true (c.client_kind.ensures ∙ e)))

pub returns-then-not-item_fits : goal.returns-then-not-item_fits
returns-then-not-item_fits c =
    let block = c.args.block.now in
    c.refused_at-then-not-item_fits.ensures
    ∙ sym (wrong_root block (sym c.client_kind.ensures ∙ c.if-client_kind-ne124.false)
    (sym (ap (item_fits block) c.user_root-root.ensures) ∙ fails _ _ c.item_fits.ensures c.if-not-item_fits.true))

pub part_of-table-requires : goal.part_of-table-requires
part_of-table-requires c = (c.requires, (number_exactly _ _).0 (holds _ _ c.item_fits.ensures c.if-not-item_fits.false))

pub returns-then-not-record_fits : goal.returns-then-not-record_fits
returns-then-not-record_fits c =
    let r = read (goal.at.returns-then-not-record_fits c).After-part_of-table in
    c.refused_at-then-not-record_fits.ensures
    ∙ sym (wrong_record _ r.0 r.1 (sym (ap record_fits r.2) ∙ fails _ _ c.record_fits.ensures c.if-not-record_fits.true))

pub columns_fit-requires : goal.columns_fit-requires
columns_fit-requires c = (record_exactly _).0 (holds _ _ c.record_fits.ensures c.if-not-record_fits.false)

pub returns-then-not-columns_fit : goal.returns-then-not-columns_fit
returns-then-not-columns_fit c =
    let r = read (goal.at.returns-then-not-columns_fit c).After-part_of-table in
    c.refused_at-then-not-columns_fit.ensures
    ∙ sym (wrong_columns _ r.0 r.1 (sym (ap record_fits r.2) ∙ holds _ _ c.record_fits.ensures c.if-not-record_fits.false)
    (sym (ap columns_fit r.2) ∙ fails _ _ c.columns_fit.ensures c.if-not-columns_fit.true))

pub returns : goal.returns
returns c =
    let r = read (goal.at.returns c).After-part_of-table in
    sym (right_columns _ r.0 r.1 (sym (ap record_fits r.2) ∙ holds _ _ c.record_fits.ensures c.if-not-record_fits.false)
    (sym (ap columns_fit r.2) ∙ holds _ _ c.columns_fit.ensures c.if-not-columns_fit.false))
