use Prim.Native.Nat.{ℕ, ◌/◌, ◌%◌}
use mathlib.Core.Path.{ap₂}
use mathlib.Core.Bool.{◌&&◌}
use lib.Dec.{leb, eqb}
use Rattle.heap.specs.Items.{item_fits, item_kind, item_block}
use Rattle.heap.proofs.item_fits.Goals as goal

pub returns : goal.returns
unfolding item_fits item_kind item_block
returns c =
    let item = c.args.item in
    ap₂ (λ (index count : ℕ). eqb (item % 32) 0 && eqb (item / 65536) 0 && leb 1 index && leb index count) c.item_index-index.ensures.0 c.item_count-count.ensures.0
