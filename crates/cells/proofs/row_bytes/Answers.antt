use Rattle.std.proofs.Common.{sym, rules}
use Rattle.cells.specs.Rows.{row_bytes, held_bytes}
use Rattle.cells.proofs.HeldLaws.{item_named}
use Rattle.cells.proofs.row_bytes.Goals as goal

pub part_of-requires : goal.part_of-requires
part_of-requires c =
    let a = c.args in
    (c.requires.0.heap, item_named a.block.now a.rows.now _ _ (sym c.in-Item.ensures) c.requires.1)

pub returns-in-Nothing : goal.returns-in-Nothing
unfolding row_bytes held_bytes
returns-in-Nothing c = search rules

pub returns-in-Item : goal.returns-in-Item
unfolding row_bytes held_bytes
returns-in-Item c = search rules

pub returns-in-Subnode : goal.returns-in-Subnode
unfolding row_bytes held_bytes
returns-in-Subnode c = search rules
