use mathlib.Core.Path.{ap, ◌∙◌}
use Rattle.pst.proofs.Answered.{read_is, read_buffer_is}
use Rattle.rkw.specs.Answers.{length_answer}
use Rattle.rkw.proofs.rkw_read_block.Goals as goal

pub returns : goal.returns
returns c = record { answer = c.from.ensures ∙ ap length_answer (read_is _ _ _ _ c.read_block.ensures.answer); buffer = c.read_block.ensures.buffer ∙ read_buffer_is _ _ _ }
