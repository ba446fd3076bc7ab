use Prim.Native.Nat.{◌≤◌}
use mathlib.Core.Path.{◌≡◌}
use Rattle.keys.specs.Records.{keys_of}
use Rattle.keys.specs.Range.{ordered}
use Rattle.keys.proofs.Rising.{Rise}
use Rattle.keys.proofs.RecordLaws.{keys_from}
use Rattle.keys.proofs.climb.Given as goal
use Rattle.std.specs.Prelude.{Ok}

abbrev pub invariant-loop-i : goal.invariant-loop-i
invariant-loop-i l = (1 ≤ l.i) × (l.i ≤ l.count) × (Rise l.range.to l.last (keys_from l.shape l.count l.bytes l.i) → ordered l.range (keys_of l.shape l.count l.bytes) ≡ Ok tt)
