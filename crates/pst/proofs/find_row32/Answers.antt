use mathlib.Core.Path.{ap}
use Rattle.pst.specs.Meaning.{row_means}
use Rattle.pst.specs.Outcomes.{row32_outcome}
use Rattle.pst.proofs.find_row32.Goals as goal

pub returns : goal.returns
unfolding row32_outcome
returns c = ap row_means c.find_row32.ensures
