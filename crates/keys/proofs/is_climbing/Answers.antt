use Rattle.std.proofs.Common.{rules}
use Rattle.keys.specs.Range.{climbing}
use Rattle.keys.proofs.is_climbing.Goals as goal

pub returns : goal.returns
unfolding climbing
returns c = search rules
