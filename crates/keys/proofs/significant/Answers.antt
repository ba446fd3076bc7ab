use Rattle.keys.specs.Records.{significant}
use Rattle.keys.proofs.significant.Goals as goal

pub returns-then-reserved : goal.returns-then-reserved
unfolding significant
returns-then-reserved c = rw c.if-reserved.true c.cleared.ensures

pub returns-else-reserved : goal.returns-else-reserved
unfolding significant
returns-else-reserved c = rw c.if-reserved.false
