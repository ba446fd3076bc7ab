use Rattle.columns.specs.Record.{existence_start}
use Rattle.columns.proofs.existence_start.Goals as goal

pub returns : goal.returns
unfolding existence_start
returns c = c.short_in.ensures
