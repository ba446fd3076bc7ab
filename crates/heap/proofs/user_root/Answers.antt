use Rattle.heap.specs.Shape.{user_root}
use Rattle.heap.proofs.user_root.Goals as goal

pub returns : goal.returns
unfolding user_root
returns c = c.field4.ensures
