use mathlib.Core.Path.{◌∙◌}
use Rattle.pst.proofs.Answered.{checksum_is}
use Rattle.rkw.proofs.rkw_checksum.Goals as goal

pub returns : goal.returns
returns c = c.checksum.ensures ∙ checksum_is _
