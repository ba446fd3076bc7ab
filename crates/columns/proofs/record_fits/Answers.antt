use mathlib.Core.Path.{sym}
use Rattle.columns.specs.Record.{record_fits}
use Rattle.columns.proofs.RecordLaws.{record_short}
use Rattle.columns.proofs.record_fits.Goals as goal

pub returns-then-table-lt22 : goal.returns-then-table-lt22
returns-then-table-lt22 c = sym (record_short _ c.if-table-lt22.true)

pub returns : goal.returns
unfolding record_fits
returns c = rw (c.column_count.ensures.0, c.byte_at.ensures, c.row_size.ensures.0, c.existence_start.ensures.0, c.row_size-2.ensures.0)
