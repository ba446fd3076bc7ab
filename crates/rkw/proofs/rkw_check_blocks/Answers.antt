use mathlib.Core.Path.{ap, ◌∙◌}
use Rattle.pst.proofs.Answered.{blocks_is}
use Rattle.rkw.specs.Answers.{verdict_answer}
use Rattle.rkw.proofs.rkw_check_blocks.Goals as goal

pub returns : goal.returns
returns c = c.from.ensures ∙ ap verdict_answer (blocks_is _ _ c.check_blocks.ensures)
