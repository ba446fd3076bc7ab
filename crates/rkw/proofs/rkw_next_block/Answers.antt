use mathlib.Core.Path.{ap, ◌∙◌}
use Rattle.pst.proofs.Answered.{next_block_is}
use Rattle.rkw.specs.Answers.{block_answer}
use Rattle.rkw.proofs.rkw_next_block.Goals as goal

pub returns : goal.returns
returns c = c.from.ensures ∙ ap block_answer (next_block_is _ _ _ c.next_block.ensures)
