use mathlib.Core.Path.{refl}
use native.Mathlib.Omega.{arith}
use Rattle.heap.specs.Items.{item_index}
use Rattle.heap.proofs.item_index.Goals as goal

pub returns : goal.returns
unfolding item_index
returns c = (refl, omega arith)
