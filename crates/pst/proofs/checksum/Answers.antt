use Rattle.pst.specs.Outcomes.{checksum_outcome}
use Rattle.pst.proofs.checksum.Goals as goal

pub returns : goal.returns
unfolding checksum_outcome
returns c = c.checksum.ensures
