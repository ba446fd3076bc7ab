use Rattle.std.proofs.Common.{refl, arith}
use Rattle.remainder.specs.Remainder.{table_entry, bits, bit}
use Rattle.remainder.proofs.Entries.{entry}
use Rattle.tables64.specs.declared.TheConstants.{OFFSET72}
use Rattle.tables64.proofs.offset72.Goals as goal

pub returns : goal.returns
unfolding table_entry bits bit
returns c = entry OFFSET72 5 c.args.byte refl c.from.ensures (omega arith)
