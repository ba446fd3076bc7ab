use mathlib.Core.Path.{ap, ◌∙◌}
use Rattle.columns.specs.Record.{column_count, row_size_of, existence_start, rows_value_of}
use Rattle.table.specs.Says.{named_by, table_in}
use Rattle.table.proofs.table_in.Goals as goal

pub returns : goal.returns
unfolding table_in
returns c =
    let told = c.record_of-table.ensures in
    rw (c.column_count.ensures.0 ∙ ap column_count told, c.row_size.ensures.0 ∙ ap row_size_of told, c.existence_start.ensures.0 ∙ ap existence_start told, c.named_by.ensures ∙ ap named_by (c.rows_value.ensures ∙ ap rows_value_of told))
