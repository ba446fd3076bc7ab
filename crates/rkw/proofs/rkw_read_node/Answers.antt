use mathlib.Core.Path.{ap, ◌∙◌}
use Rattle.pst.proofs.Answered.{data_is, data_buffer_is}
use Rattle.rkw.specs.Answers.{data_answer}
use Rattle.rkw.proofs.rkw_read_node.Goals as goal

pub returns : goal.returns
returns c = record { answer = c.from.ensures ∙ ap data_answer (data_is _ _ _ _ c.read_node.ensures.answer); buffer = c.read_node.ensures.buffer ∙ data_buffer_is _ _ _ }
