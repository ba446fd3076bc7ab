use Rattle.pst.specs.Outcomes.{item_outcome}
use Rattle.pst.proofs.item.Goals as goal

pub returns : goal.returns
unfolding item_outcome
returns c = c.item_of.ensures
