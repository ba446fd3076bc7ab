use mathlib.Core.Path.{refl}
use Rattle.block.specs.Block.{internal}
use Rattle.block.proofs.is_internal.Goals as goal

pub returns : goal.returns
unfolding internal
returns c = refl
