use Rattle.page.specs.Page.{count_of}
use Rattle.page.proofs.count_of.Goals as goal

pub returns : goal.returns
unfolding count_of
returns c = c.count_at.ensures
