use Rattle.header.specs.Header.{encoding_fits}
use Rattle.header.proofs.encoding_fits.Goals as goal

pub returns : goal.returns
unfolding encoding_fits
returns c = rw c.method_of.ensures
