use Rattle.columns.specs.Columns.{refers}
use Rattle.columns.proofs.refers.Goals as goal

pub returns : goal.returns
unfolding refers
returns c = c.is_reference.ensures
