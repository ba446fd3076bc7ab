use mathlib.Core.Path.{refl}
use Rattle.header.specs.Header.{length_fits}
use Rattle.header.proofs.length_fits.Goals as goal

pub returns : goal.returns
unfolding length_fits
returns c = refl
