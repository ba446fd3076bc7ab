use Rattle.header.specs.Header.{version_of}
use Rattle.header.proofs.version_of.Goals as goal

pub returns : goal.returns
unfolding version_of
returns c = c.field_held.ensures
