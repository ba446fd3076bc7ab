use Rattle.page.specs.Page.{level_fits}
use Rattle.page.proofs.level_fits.Goals as goal

pub returns-in-AtRoot : goal.returns-in-AtRoot
unfolding level_fits
returns-in-AtRoot c = rw c.in-AtRoot.is

pub returns-in-Exactly : goal.returns-in-Exactly
unfolding level_fits
returns-in-Exactly c = rw c.in-Exactly.is
