use mathlib.Core.Path.{ap, ◌∙◌}
use Rattle.pst.proofs.Answered.{list_is, list_area_is}
use Rattle.rkw.specs.Answers.{verdict_answer}
use Rattle.rkw.proofs.rkw_find_nodes.Goals as goal

pub returns : goal.returns
returns c = record { answer = c.from.ensures ∙ ap verdict_answer (list_is _ _ _ c.find_nodes.ensures.answer); area = c.find_nodes.ensures.area ∙ list_area_is _ _ _ }
