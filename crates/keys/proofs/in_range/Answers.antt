use Rattle.keys.specs.Range.{in_range}
use Rattle.keys.proofs.in_range.Goals as goal

pub returns : goal.returns
unfolding in_range
returns c = rw c.is_before.ensures
