use Rattle.header.specs.Header.{reference_at}
use Rattle.header.proofs.root_at.Goals as goal

pub returns : goal.returns
unfolding reference_at
returns c = rw (c.field_of.ensures.0, c.field_of-2.ensures.0)
