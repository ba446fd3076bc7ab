use Prim.Native.Nat.{◌≤◌}
use mathlib.Core.Path.{◌≡◌}
use Rattle.keys.specs.Search.{last_at_most}
use Rattle.keys.proofs.RecordLaws.{keys_from}
use Rattle.keys.proofs.last_of.Given as goal
use Rattle.std.specs.Prelude.{None}

abbrev pub invariant-loop-i : goal.invariant-loop-i
invariant-loop-i l = (l.i ≤ l.count) × (last_at_most l.key (keys_from l.shape l.count l.bytes l.i) ≡ None)

abbrev pub decreases-loop-i : goal.decreases-loop-i
decreases-loop-i l = l.i
