use mathlib.Core.Path.{ap, ◌∙◌}
use Rattle.pst.proofs.Answered.{table_is}
use Rattle.rkw.specs.Tables.{table_answer}
use Rattle.rkw.proofs.rkw_table.Goals as goal

pub returns : goal.returns
returns c = c.from.ensures ∙ ap table_answer (table_is _ _ c.table.ensures)
