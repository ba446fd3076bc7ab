use mathlib.Core.Path.{ap, ◌∙◌}
use Prim.Native.Nat.{ℕ, ◌+◌, ◌*◌}
use Rattle.le.specs.Bytes.{field}
use Rattle.heap.specs.Shape.{offset}
use Rattle.heap.proofs.offset_at.Goals as goal

pub returns : goal.returns
unfolding offset
returns c =
    let a = c.args in
    (c.offset_in.ensures.0 ∙ ap (λ (place : ℕ). field a.block.now (place + 2 + 2 * a.i) 2) c.map_offset.ensures.0, c.offset_in.ensures.1)
