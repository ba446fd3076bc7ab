use Rattle.pst.specs.Outcomes.{room32_outcome}
use Rattle.pst.proofs.room32.Goals as goal

pub returns : goal.returns
unfolding room32_outcome
returns c = c.room32.ensures
