use mathlib.Core.Path.{sym, ◌∙◌}
use Rattle.heaptree.proofs.StepLaws.{from_none, from_some}
use Rattle.heaptree.proofs.find_from.Goals as goal

pub returns-then-item-eq0 : goal.returns-then-item-eq0
returns-then-item-eq0 c =
    let a = c.args in
    from_none a.tree a.block.now _ a.root a.key c.part_of-record.ensures (sym c.field4-item.ensures ∙ c.if-item-eq0.true)

pub returns : goal.returns
returns c =
    let a = c.args in
    from_some a.tree a.block.now _ a.root a.key c.part_of-record.ensures _ _ _ c.field4-item.ensures c.byte_at-levels.ensures c.if-item-eq0.false c.find_under.ensures
