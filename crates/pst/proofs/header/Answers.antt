use mathlib.Core.Path.{ap}
use Rattle.pst.specs.Meaning.{header_means}
use Rattle.pst.specs.Outcomes.{header_outcome}
use Rattle.pst.proofs.header.Goals as goal

pub returns : goal.returns
unfolding header_outcome
returns c = ap header_means c.header_of.ensures
