use mathlib.Core.Path.{ap, ◌∙◌}
use Rattle.pst.proofs.Answered.{property_is}
use Rattle.rkw.specs.Answers.{property_answer}
use Rattle.rkw.proofs.rkw_find_property.Goals as goal

pub returns : goal.returns
returns c = c.from.ensures ∙ ap property_answer (property_is _ _ _ c.find_property.ensures)
