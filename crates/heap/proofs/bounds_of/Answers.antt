use Rattle.std.proofs.Common.{◌≡◌, arith}
use Rattle.heap.specs.Items.{item_start, item_end}
use Rattle.heap.proofs.ItemLaws.{starts_before, ends_inside}
use Rattle.heap.proofs.bounds_of.Goals as goal

pub returns : goal.returns
unfolding item_start item_end
returns c =
    let a = c.args in
    let p = c.requires in
    let start : c.offset_at.result ≡ item_start a.block.now a.item = cc in
    let end : c.offset_at-2.result ≡ item_end a.block.now a.item = cc in
    (start, end, omega (arith, starts_before a.block.now p.0 a.item p.1), omega (arith, ends_inside a.block.now p.0 a.item p.1))
