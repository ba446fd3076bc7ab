use Rattle.std.proofs.Common.{refl, arith}
use Rattle.remainder.specs.Remainder.{table_entry, bits, bit}
use Rattle.remainder.proofs.Entries.{entry}
use Rattle.tables80.specs.declared.TheConstants.{OFFSET88}
use Rattle.tables80.proofs.offset88.Goals as goal

pub returns : goal.returns
unfolding table_entry bits bit
returns c = entry OFFSET88 7 c.args.byte refl c.from.ensures (omega arith)
