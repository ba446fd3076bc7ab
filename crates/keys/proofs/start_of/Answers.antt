use Rattle.std.proofs.Common.{rules}
use Rattle.keys.specs.Search.{start}
use Rattle.keys.proofs.start_of.Goals as goal

pub returns : goal.returns
unfolding start
returns c = search rules
