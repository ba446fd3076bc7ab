use Rattle.columns.specs.Columns.{column_at}
use Rattle.columns.proofs.column_at.Goals as goal

pub returns : goal.returns
unfolding column_at
returns c = (rw (c.field4-tag.ensures, c.short_in-offset.ensures.0, c.byte_in-width.ensures.0, c.byte_in-bit.ensures.0), c.short_in-offset.ensures.1, c.byte_in-width.ensures.1, c.byte_in-bit.ensures.1)
