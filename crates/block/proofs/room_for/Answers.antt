use mathlib.Core.Path.{refl}
use Rattle.block.specs.Block.{room_for}
use Rattle.block.proofs.room_for.Goals as goal

pub returns : goal.returns
unfolding room_for
returns c = refl
