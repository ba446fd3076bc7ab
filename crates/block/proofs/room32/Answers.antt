use mathlib.Core.Path.{ap, ◌∙◌}
use native.Mathlib.Omega.{arith}
use Rattle.edition.specs.declared.Trailer.{Trailer}
use Rattle.edition.specs.Editions.{trailer32}
use Rattle.block.specs.Block.{room_for, room32}
use Rattle.block.proofs.room32.Goals as goal

pub room_for-requires : goal.room_for-requires
unfolding trailer32
room_for-requires c = rw c.trailer_32.ensures (omega arith, omega arith)

pub returns : goal.returns
unfolding room32
returns c = c.room_for.ensures ∙ ap (λ (t : Trailer). room_for t c.args.size) c.trailer_32.ensures
