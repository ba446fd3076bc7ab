use Prim.Native.Nat.{ℕ}
use mathlib.Core.Path.{ap}
use lib.Dec.{leb}
use lib.ListN.{length}
use Rattle.header.specs.Header.{end_fits}
use Rattle.header.proofs.end_fits.Goals as goal

pub returns : goal.returns
unfolding end_fits
returns c = ap (λ (n : ℕ). leb n (length c.args.image.now)) c.stated_end.ensures
