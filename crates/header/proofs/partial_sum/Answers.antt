use mathlib.Core.Path.{ap, ◌∙◌}
use Rattle.le.proofs.FieldLaws.{slice_is}
use Rattle.crc.specs.Checksum.{checksum}
use Rattle.header.proofs.partial_sum.Goals as goal

pub returns : goal.returns
returns c = c.checksum.ensures ∙ ap checksum (slice_is _ 8 479)
