use mathlib.Core.Path.{ap, ◌∙◌}
use Rattle.pst.proofs.Answered.{read_row_is, row_area_is}
use Rattle.rkw.specs.Tables.{cells_answer}
use Rattle.rkw.proofs.rkw_read_row.Goals as goal

pub returns : goal.returns
returns c = record { answer = c.from.ensures ∙ ap cells_answer (read_row_is _ _ _ _ _ c.read_row.ensures.answer); area = c.read_row.ensures.area ∙ row_area_is _ _ _ _ }
