use mathlib.Core.Path.{ap}
use Rattle.pst.specs.Meaning.{count_means}
use Rattle.pst.specs.Outcomes.{count_outcome}
use Rattle.pst.proofs.count_rows.Goals as goal

pub returns : goal.returns
unfolding count_outcome
returns c = ap count_means c.count_rows.ensures
