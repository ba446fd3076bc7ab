use Rattle.le.proofs.FieldLaws.{slice_is}
use Rattle.header.proofs.HeaderLaws.{sum_goes_on}
use Rattle.header.proofs.whole_sum.Goals as goal

pub returns : goal.returns
returns c = sum_goes_on _ _ _ _ c.requires.1 c.checksum_from.ensures (slice_is c.args.image.now 479 524)
