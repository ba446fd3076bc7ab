use mathlib.Core.Path.{ap, ◌∙◌}
use Rattle.pst.proofs.Answered.{code_is, encode_buffer_is}
use Rattle.rkw.specs.Answers.{verdict_answer}
use Rattle.rkw.proofs.rkw_encode.Goals as goal

pub returns : goal.returns
returns c = record { answer = c.from.ensures ∙ ap verdict_answer (code_is _ _ c.encode.ensures.answer); buffer = c.encode.ensures.buffer ∙ encode_buffer_is _ _ _ }
