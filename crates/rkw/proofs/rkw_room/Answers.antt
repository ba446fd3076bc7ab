use mathlib.Core.Path.{◌∙◌}
use Rattle.pst.proofs.Answered.{room_is}
use Rattle.rkw.proofs.rkw_room.Goals as goal

pub returns : goal.returns
returns c = c.room.ensures ∙ room_is _
