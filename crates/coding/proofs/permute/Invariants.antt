use Rattle.std.proofs.Common.{◌≡◌, ◌++◌, map, take, drop}
use Rattle.coding.specs.Table.{entry}
use Rattle.coding.proofs.permute.Given as goal

abbrev pub invariant-loop-byte : goal.invariant-loop-byte
invariant-loop-byte l =
    l.bytes ≡ map (entry l.from) (take l.byte-index l.initial.bytes) ++ drop l.byte-index l.initial.bytes
