use mathlib.Core.Path.{◌∙◌}
use Rattle.pst.proofs.Answered.{room32_is}
use Rattle.rkw.proofs.rkw_room32.Goals as goal

pub returns : goal.returns
returns c = c.room32.ensures ∙ room32_is _
