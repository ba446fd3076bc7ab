use mathlib.Core.Path.{ap, ◌∙◌}
use Rattle.pst.proofs.Answered.{test_item_is}
use Rattle.rkw.specs.Answers.{verdict_answer}
use Rattle.rkw.proofs.rkw_test_item.Goals as goal

pub returns : goal.returns
returns c = c.from.ensures ∙ ap verdict_answer (test_item_is _ _ _ c.test_item.ensures)
