use mathlib.Core.Path.{ap, ◌∙◌}
use Rattle.pst.proofs.Answered.{next_node_is}
use Rattle.rkw.specs.Answers.{node_answer}
use Rattle.rkw.proofs.rkw_next_node.Goals as goal

pub returns : goal.returns
returns c = c.from.ensures ∙ ap node_answer (next_node_is _ _ _ c.next_node.ensures)
