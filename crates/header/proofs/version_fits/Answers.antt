use Prim.Native.Nat.{ℕ}
use mathlib.Core.Path.{ap₂}
use mathlib.Core.Bool.{Bool, ◌||◌}
use lib.Dec.{eqb}
use Rattle.header.specs.Header.{version_fits}
use Rattle.header.proofs.version_fits.Goals as goal

pub returns : goal.returns
unfolding version_fits
returns c = ap₂ (λ (version : ℕ) (older : Bool). eqb version 23 || older) c.version_of.ensures c.is_older.ensures
