use Rattle.heaptree.proofs.RecordLaws.{shape_leaf, shape_index}
use Rattle.heaptree.proofs.shape_at.Goals as goal

pub returns-then-levels-eq0 : goal.returns-then-levels-eq0
returns-then-levels-eq0 c = shape_leaf c.args.tree c.args.levels c.if-levels-eq0.true

pub returns : goal.returns
returns c = shape_index c.args.tree c.args.levels c.if-levels-eq0.false
