use Rattle.heap.specs.Shape.{client_kind}
use Rattle.heap.proofs.client_kind.Goals as goal

pub returns : goal.returns
unfolding client_kind
returns c = c.byte_at.ensures
