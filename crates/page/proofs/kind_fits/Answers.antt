use Rattle.page.specs.Page.{kind_fits}
use Rattle.page.proofs.kind_fits.Goals as goal

pub returns : goal.returns
unfolding kind_fits
returns c = rw (c.byte_at.ensures, c.byte_at-2.ensures)
