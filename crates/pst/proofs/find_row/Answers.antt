use mathlib.Core.Path.{ap}
use Rattle.pst.specs.Meaning.{row_means}
use Rattle.pst.specs.Outcomes.{row_outcome}
use Rattle.pst.proofs.find_row.Goals as goal

pub returns : goal.returns
unfolding row_outcome
returns c = ap row_means c.find_row.ensures
