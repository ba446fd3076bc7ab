use mathlib.Core.Path.{ap}
use Rattle.pst.specs.Meaning.{verdict_means}
use Rattle.pst.specs.Outcomes.{heap_outcome}
use Rattle.pst.proofs.test_heap.Goals as goal

pub returns : goal.returns
unfolding heap_outcome
returns c = ap verdict_means c.test_heap.ensures
