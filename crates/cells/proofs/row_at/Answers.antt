use Rattle.std.proofs.Common.{◌≡◌, ◌+◌, ◌*◌, ◌≤◌, ap, ◌∙◌, arith, length}
use Rattle.le.specs.Bytes.{part}
use Rattle.le.proofs.FieldLaws.{part_is}
use Rattle.columns.specs.Record.{row_size_of}
use Rattle.table.specs.Context.{table_record}
use Rattle.cells.specs.Rows.{row_at}
use Rattle.cells.proofs.RowLaws.{row_inside}
use Rattle.cells.proofs.row_at.Goals as goal
use Rattle.cells.proofs.row_at.Goals.{After-row_size-size}

-- the size that was read is the table's, and the row lies in the bytes
told : (c : After-row_size-size) → c.row_size-size.result ≡ row_size_of (table_record c.args.block.now)
told c = c.row_size-size.ensures.0 ∙ ap row_size_of c.record_of.ensures

inside : (c : After-row_size-size) → c.args.row * c.row_size-size.result + c.row_size-size.result ≤ length c.args.bytes.now
inside c = rw (told c) (row_inside (table_record c.args.block.now) c.args.bytes.now c.args.row c.requires.1)

pub overflow_mul-start : goal.overflow_mul-start
overflow_mul-start c = omega (arith, inside (goal.at.overflow_mul-start c).After-row_size-size)

pub overflow_add-result : goal.overflow_add-result
overflow_add-result c = omega (arith, inside (goal.at.overflow_add-result c).After-row_size-size)

pub slice_bounds-result-end : goal.slice_bounds-result-end
slice_bounds-result-end c = omega (arith, inside (goal.at.slice_bounds-result-end c).After-row_size-size)

pub returns : goal.returns
unfolding row_at
returns c =
    let a = c.args in
    part_is a.bytes.now (a.row * c.row_size-size.result) c.row_size-size.result
    ∙ ap (λ size. part a.bytes.now (a.row * size) size) (told (goal.at.returns c).After-row_size-size)
