use mathlib.Core.Path.{ap, ◌∙◌}
use Rattle.pst.proofs.Answered.{node_is}
use Rattle.rkw.specs.Answers.{node_answer}
use Rattle.rkw.proofs.rkw_find_node.Goals as goal

pub returns : goal.returns
returns c = c.from.ensures ∙ ap node_answer (node_is _ _ _ c.find_node.ensures)
