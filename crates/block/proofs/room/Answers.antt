use mathlib.Core.Path.{ap, ◌∙◌}
use native.Mathlib.Omega.{arith}
use Rattle.edition.specs.declared.Trailer.{Trailer}
use Rattle.edition.specs.Editions.{trailer64}
use Rattle.block.specs.Block.{room_for, room}
use Rattle.block.proofs.room.Goals as goal

pub room_for-requires : goal.room_for-requires
unfolding trailer64
room_for-requires c = rw c.trailer_64.ensures (omega arith, omega arith)

pub returns : goal.returns
unfolding room
returns c = c.room_for.ensures ∙ ap (λ (t : Trailer). room_for t c.args.size) c.trailer_64.ensures
