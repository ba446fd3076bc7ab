use Rattle.page.specs.Page.{level_of}
use Rattle.page.proofs.level_of.Goals as goal

pub returns : goal.returns
unfolding level_of
returns c = c.count_at.ensures
