use Rattle.std.proofs.Common.{rules}
use Rattle.tree.specs.Tree.{root}
use Rattle.tree.proofs.root_link.Goals as goal

pub returns : goal.returns
unfolding root
returns c = search rules
