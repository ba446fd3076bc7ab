use mathlib.Core.Path.{ap, ◌∙◌}
use Rattle.pst.proofs.Answered.{header_is}
use Rattle.rkw.specs.Answers.{header_answer}
use Rattle.rkw.proofs.rkw_header.Goals as goal

pub returns : goal.returns
returns c = c.from.ensures ∙ ap header_answer (header_is _ _ c.header.ensures)
