use mathlib.Core.Path.{ap}
use Rattle.pst.specs.Meaning.{span_means}
use Rattle.pst.specs.Outcomes.{span_outcome}
use Rattle.pst.proofs.find_item.Goals as goal

pub returns : goal.returns
unfolding span_outcome
returns c = ap span_means c.find_item.ensures
