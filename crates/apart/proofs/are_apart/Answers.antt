use mathlib.Core.Path.{refl}
use Rattle.columns.specs.Columns.{apart}
use Rattle.apart.proofs.are_apart.Goals as goal

pub returns : goal.returns
unfolding apart
returns c = refl
