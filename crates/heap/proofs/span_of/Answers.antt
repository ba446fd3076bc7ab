use Rattle.std.proofs.Common.{◌-◌, ap₂}
use Rattle.heap.specs.Items.{item_length}
use Rattle.heap.proofs.span_of.Goals as goal

pub returns : goal.returns
unfolding item_length
returns c =
    let bounds = c.bounds_of-bounds.ensures in
    (bounds.0, ap₂ (λ start end. end - start) bounds.0 bounds.1)
