use mathlib.Core.Path.{ap, ◌∙◌}
use Rattle.pst.proofs.Answered.{row_is}
use Rattle.rkw.specs.Tables.{row_answer}
use Rattle.rkw.proofs.rkw_find_row.Goals as goal

pub returns : goal.returns
returns c = c.from.ensures ∙ ap row_answer (row_is _ _ _ c.find_row.ensures)
