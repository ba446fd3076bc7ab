use mathlib.Core.Path.{ap, ◌∙◌}
use Rattle.pst.proofs.Answered.{column_is}
use Rattle.rkw.specs.Tables.{column_answer}
use Rattle.rkw.proofs.rkw_column.Goals as goal

pub returns : goal.returns
returns c = c.from.ensures ∙ ap column_answer (column_is _ _ _ c.column.ensures)
