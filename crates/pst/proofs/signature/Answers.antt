use Rattle.pst.specs.Outcomes.{signature_outcome}
use Rattle.pst.proofs.signature.Goals as goal

pub returns : goal.returns
unfolding signature_outcome
returns c = c.signature.ensures
