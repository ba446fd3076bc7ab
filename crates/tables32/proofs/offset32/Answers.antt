use Rattle.std.proofs.Common.{refl, arith}
use Rattle.remainder.specs.Remainder.{table_entry, bits, bit}
use Rattle.remainder.proofs.Entries.{entry}
use Rattle.tables32.specs.declared.TheConstants.{OFFSET32}
use Rattle.tables32.proofs.offset32.Goals as goal

pub returns : goal.returns
unfolding table_entry bits bit
returns c = entry OFFSET32 0 c.args.byte refl c.from.ensures (omega arith)
