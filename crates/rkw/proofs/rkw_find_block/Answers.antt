use mathlib.Core.Path.{ap, ◌∙◌}
use Rattle.pst.proofs.Answered.{block_is}
use Rattle.rkw.specs.Answers.{block_answer}
use Rattle.rkw.proofs.rkw_find_block.Goals as goal

pub returns : goal.returns
returns c = c.from.ensures ∙ ap block_answer (block_is _ _ _ c.find_block.ensures)
