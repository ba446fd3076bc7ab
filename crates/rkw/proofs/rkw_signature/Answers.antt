use mathlib.Core.Path.{◌∙◌}
use Rattle.pst.proofs.Answered.{signature_is}
use Rattle.rkw.proofs.rkw_signature.Goals as goal

pub returns : goal.returns
returns c = c.signature.ensures ∙ signature_is _ _
