use mathlib.Core.Path.{ap₂}
use lib.Dec.{eqb}
use Rattle.page.specs.Page.{checksum_fits}
use Rattle.page.proofs.checksum_fits.Goals as goal

pub returns : goal.returns
unfolding checksum_fits
returns c = ap₂ eqb c.field4.ensures c.checksum.ensures
