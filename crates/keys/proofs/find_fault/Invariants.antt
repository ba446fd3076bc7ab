use Prim.Native.Nat.{◌≤◌}
use mathlib.Core.Path.{◌≡◌}
use Rattle.keys.specs.Records.{keys_of}
use Rattle.keys.specs.Range.{ordered, ordered_after}
use Rattle.keys.proofs.RecordLaws.{keys_from}
use Rattle.keys.proofs.find_fault.Given as goal

abbrev pub invariant-loop-i : goal.invariant-loop-i
invariant-loop-i l = (1 ≤ l.i) × (l.i ≤ l.count) × (ordered l.range (keys_of l.shape l.count l.bytes) ≡ ordered_after l.range l.i l.last (keys_from l.shape l.count l.bytes l.i))
