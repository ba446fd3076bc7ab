use Prim.Native.Nat.{ℕ}
use mathlib.Core.Path.{ap}
use mathlib.Core.Bool.{◌||◌}
use lib.Dec.{eqb}
use Rattle.header.specs.Header.{older}
use Rattle.header.proofs.is_older.Goals as goal

pub returns : goal.returns
unfolding older
returns c = ap (λ (version : ℕ). eqb version 14 || eqb version 15) c.version_of-version.ensures
