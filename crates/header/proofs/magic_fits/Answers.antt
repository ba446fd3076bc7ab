use mathlib.Core.Path.{refl}
use Rattle.header.specs.Header.{magic_fits}
use Rattle.le.specs.Bytes.{byte}
use Rattle.header.proofs.magic_fits.Goals as goal

pub returns : goal.returns
unfolding magic_fits byte
returns c = refl
