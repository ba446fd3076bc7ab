use mathlib.Core.Path.{ap₂, ◌∙◌}
use Prim.Native.Nat.{ℕ}
use mathlib.Core.List.{List}
use Rattle.laws.specs.Front.{fronted}
use Rattle.block.specs.Block.{plain, block_bytes}
use Rattle.le.proofs.FieldLaws.{part_is}
use Rattle.block.proofs.block_into.Goals as goal

pub returns : goal.returns
unfolding block_bytes
returns c =
    let a = c.args in
    c.decode_into.ensures
    ∙ ap₂ (λ (m : ℕ) (s : List ℕ). fronted (plain m a.b.block s) a.out.now) c.method_of-method.ensures (part_is a.image.now a.b.offset a.b.size)
