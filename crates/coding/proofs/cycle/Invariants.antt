use Rattle.std.proofs.Common.{◌≡◌, ◌++◌, take, drop}
use Rattle.coding.specs.Coding.{cyclic}
use Rattle.coding.proofs.cycle.Given as goal

abbrev pub invariant-loop-byte : goal.invariant-loop-byte
invariant-loop-byte l =
    take l.byte-index l.bytes ++ cyclic l.w (drop l.byte-index l.bytes) ≡ cyclic l.start l.initial.bytes
