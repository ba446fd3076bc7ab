use Rattle.page.specs.Layout.{most_room}
use Rattle.page.proofs.PageLaws.{index_room}
use Rattle.page.proofs.most_room.Goals as goal

pub returns-then-level-eq0 : goal.returns-then-level-eq0
unfolding most_room
returns-then-level-eq0 c = rw c.if-level-eq0.true

pub returns-else-level-eq0 : goal.returns-else-level-eq0
returns-else-level-eq0 c = index_room c.args.l c.args.level c.if-level-eq0.false
