use mathlib.Core.Path.{ap, ◌∙◌}
use Rattle.pst.proofs.Answered.{count_is}
use Rattle.rkw.specs.Tables.{count_answer}
use Rattle.rkw.proofs.rkw_count_rows.Goals as goal

pub returns : goal.returns
returns c = c.from.ensures ∙ ap count_answer (count_is _ _ _ c.count_rows.ensures)
