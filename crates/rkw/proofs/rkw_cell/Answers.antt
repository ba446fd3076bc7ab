use mathlib.Core.Path.{ap, ◌∙◌}
use Rattle.pst.proofs.Answered.{cell_is}
use Rattle.rkw.specs.Tables.{cell_answer}
use Rattle.rkw.proofs.rkw_cell.Goals as goal

pub returns : goal.returns
returns c = c.from.ensures ∙ ap cell_answer (cell_is _ _ _ _ _ c.cell.ensures)
