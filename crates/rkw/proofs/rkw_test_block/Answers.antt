use mathlib.Core.Path.{ap, ◌∙◌}
use Rattle.pst.proofs.Answered.{test_is}
use Rattle.rkw.specs.Answers.{size_answer}
use Rattle.rkw.proofs.rkw_test_block.Goals as goal

pub returns : goal.returns
returns c = c.from.ensures ∙ ap size_answer (test_is _ _ _ c.test_block.ensures)
