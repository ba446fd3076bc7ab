use mathlib.Core.Path.{refl}
use Rattle.header.specs.Header.{client_fits}
use Rattle.le.specs.Bytes.{byte}
use Rattle.header.proofs.client_fits.Goals as goal

pub returns : goal.returns
unfolding client_fits byte
returns c = refl
