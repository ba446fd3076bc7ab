use Rattle.page.specs.Page.{may_be_empty}
use Rattle.page.proofs.may_be_empty.Goals as goal

pub returns-in-AtRoot : goal.returns-in-AtRoot
unfolding may_be_empty
returns-in-AtRoot c = rw c.in-AtRoot.is

pub returns-in-Exactly : goal.returns-in-Exactly
unfolding may_be_empty
returns-in-Exactly c = rw c.in-Exactly.is
