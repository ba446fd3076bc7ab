use mathlib.Core.Path.{ap}
use Rattle.pst.specs.Meaning.{property_means}
use Rattle.pst.specs.Outcomes.{property_outcome}
use Rattle.pst.proofs.find_property.Goals as goal

pub returns : goal.returns
unfolding property_outcome
returns c = ap property_means c.find_property.ensures
