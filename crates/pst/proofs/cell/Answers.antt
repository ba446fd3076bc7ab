use mathlib.Core.Path.{ap}
use Rattle.pst.specs.Meaning.{cell_means}
use Rattle.pst.specs.Outcomes.{cell_outcome}
use Rattle.pst.proofs.cell.Goals as goal

pub returns : goal.returns
unfolding cell_outcome
returns c = ap cell_means c.cell_of.ensures
