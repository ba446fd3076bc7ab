use mathlib.Core.Path.{ap}
use Rattle.pst.specs.Meaning.{column_means}
use Rattle.pst.specs.Outcomes.{column_outcome}
use Rattle.pst.proofs.column.Goals as goal

pub returns : goal.returns
unfolding column_outcome
returns c = ap column_means c.column_of.ensures
