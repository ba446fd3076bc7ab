use Rattle.std.proofs.Common.{refl, arith}
use Rattle.remainder.specs.Remainder.{table_entry, bits, bit}
use Rattle.remainder.proofs.Entries.{entry}
use Rattle.tables48.specs.declared.TheConstants.{OFFSET56}
use Rattle.tables48.proofs.offset56.Goals as goal

pub returns : goal.returns
unfolding table_entry bits bit
returns c = entry OFFSET56 3 c.args.byte refl c.from.ensures (omega arith)
