use Rattle.std.proofs.Common.{◌∙◌}
use Rattle.le.proofs.FieldLaws.{part_is}
use Rattle.le.proofs.taken.Goals as goal

pub returns : goal.returns
returns g c = (rw c.unwrap.ensures at c.try_into.ensures.1).same ∙ part_is c.args.bytes.now c.args.place g.row.N
