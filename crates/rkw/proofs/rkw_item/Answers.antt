use mathlib.Core.Path.{ap, ◌∙◌}
use Rattle.pst.proofs.Answered.{item_is}
use Rattle.rkw.specs.Answers.{item_answer}
use Rattle.rkw.proofs.rkw_item.Goals as goal

pub returns : goal.returns
returns c = c.from.ensures ∙ ap item_answer (item_is _ _ _ c.find_item.ensures)
