use mathlib.Core.Path.{ap, ◌∙◌}
use Rattle.pst.proofs.Answered.{heap_is}
use Rattle.rkw.specs.Answers.{verdict_answer}
use Rattle.rkw.proofs.rkw_test_heap.Goals as goal

pub returns : goal.returns
returns c = c.from.ensures ∙ ap verdict_answer (heap_is _ _ c.test_heap.ensures)
