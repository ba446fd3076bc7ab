use Rattle.std.proofs.Common.{ap, ◌∙◌}
use Rattle.std.specs.Int.{w64, from_le_bytes}
use Rattle.le.proofs.FieldLaws.{part_worth}
use Rattle.le.proofs.field8.Goals as goal

pub returns : goal.returns
returns c = c.from_le_bytes.ensures ∙ ap (from_le_bytes w64) c.taken.ensures ∙ part_worth c.args.bytes.now c.args.place 7
