use mathlib.Core.Path.{◌≡◌}
use mathlib.Core.List.{◌++◌}
use lib.ListN.{length, take, drop}
use Rattle.block.proofs.copy.Given as goal

abbrev pub invariant-loop-i : goal.invariant-loop-i
invariant-loop-i l = (length l.out ≡ length l.bytes) × (length l.out ≡ length l.initial.out) × (take l.i l.out ++ drop l.i l.bytes ≡ l.bytes)
