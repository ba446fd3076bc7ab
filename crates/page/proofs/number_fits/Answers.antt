use Rattle.page.specs.Page.{number_fits}
use Rattle.page.proofs.number_fits.Goals as goal

pub returns : goal.returns
unfolding number_fits
returns c = rw (c.field_of.ensures.0, c.field2.ensures, c.signature.ensures)
