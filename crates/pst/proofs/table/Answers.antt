use mathlib.Core.Path.{ap}
use Rattle.pst.specs.Meaning.{table_means}
use Rattle.pst.specs.Outcomes.{table_outcome}
use Rattle.pst.proofs.table.Goals as goal

pub returns : goal.returns
unfolding table_outcome
returns c = ap table_means c.table_of.ensures
