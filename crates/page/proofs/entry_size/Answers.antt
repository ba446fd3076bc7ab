use Rattle.page.specs.Layout.{entry_size}
use Rattle.page.proofs.PageLaws.{index_size}
use Rattle.page.proofs.entry_size.Goals as goal

pub returns-then-level-eq0 : goal.returns-then-level-eq0
unfolding entry_size
returns-then-level-eq0 c = rw c.if-level-eq0.true

pub returns-else-level-eq0 : goal.returns-else-level-eq0
returns-else-level-eq0 c = index_size c.args.l c.args.level c.if-level-eq0.false
