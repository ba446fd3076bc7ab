use Rattle.std.proofs.Common.{◌≤◌}
use Rattle.vectors.proofs.tables.table_line.Given as goal

abbrev pub invariant-loop-byte : goal.invariant-loop-byte
invariant-loop-byte g l = l.numbers ≤ l.byte
