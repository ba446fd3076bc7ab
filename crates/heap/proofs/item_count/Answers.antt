use mathlib.Core.Path.{ap, ◌∙◌}
use Prim.Native.Nat.{ℕ}
use Rattle.le.specs.Bytes.{field}
use Rattle.heap.specs.Shape.{item_count}
use Rattle.heap.proofs.item_count.Goals as goal

pub returns : goal.returns
unfolding item_count
returns c =
    (c.offset_in.ensures.0 ∙ ap (λ (place : ℕ). field c.args.block.now place 2) c.map_offset.ensures.0, c.offset_in.ensures.1)
