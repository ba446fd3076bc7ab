use mathlib.Core.Path.{ap}
use Rattle.pst.specs.Meaning.{verdict_means}
use Rattle.pst.specs.Outcomes.{test_item_outcome}
use Rattle.pst.proofs.test_item.Goals as goal

pub returns : goal.returns
unfolding test_item_outcome
returns c = ap verdict_means c.test_item.ensures
