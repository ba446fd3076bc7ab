use Rattle.heap.specs.Shape.{offsets_fit}
use Rattle.heap.proofs.offsets_fit.Goals as goal

pub returns : goal.returns
unfolding offsets_fit
returns c = rw (c.order_fits.ensures, c.offset_at.ensures.0, c.offset_at-2.ensures.0, c.map_offset.ensures.0, c.item_count-count.ensures.0)
