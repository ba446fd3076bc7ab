use Rattle.std.proofs.Common.{rules}
use Rattle.tree.specs.Ways.{leads_to}
use Rattle.tree.proofs.leads_to.Goals as goal

pub returns-in_default : goal.returns-in_default
unfolding leads_to
returns-in_default c = search rules

pub returns-in_default-2 : goal.returns-in_default-2
unfolding leads_to
returns-in_default-2 c = search rules

pub returns : goal.returns
unfolding leads_to
returns c = search rules
