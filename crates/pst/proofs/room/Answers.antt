use Rattle.pst.specs.Outcomes.{room_outcome}
use Rattle.pst.proofs.room.Goals as goal

pub returns : goal.returns
unfolding room_outcome
returns c = c.room.ensures
