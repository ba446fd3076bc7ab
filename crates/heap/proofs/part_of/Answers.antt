use Rattle.le.specs.Bytes.{part}
use Rattle.heap.specs.Items.{item_length, item_part}
use Rattle.heap.proofs.part_of.Goals as goal

pub returns : goal.returns
unfolding item_part item_length part
returns c = cc
