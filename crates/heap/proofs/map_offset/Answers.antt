use Rattle.heap.specs.Shape.{map_offset}
use Rattle.heap.proofs.map_offset.Goals as goal

pub returns : goal.returns
unfolding map_offset
returns c = c.offset_in.ensures
