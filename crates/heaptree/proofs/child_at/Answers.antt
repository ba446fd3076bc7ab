use Rattle.heaptree.proofs.RecordLaws.{child_is}
use Rattle.heaptree.proofs.child_at.Goals as goal

pub returns : goal.returns
returns c =
    let a = c.args in
    child_is a.shape c.requires.1 a.to a.count a.records.now a.i _ _ c.field4-item.ensures c.range_at-range.ensures
