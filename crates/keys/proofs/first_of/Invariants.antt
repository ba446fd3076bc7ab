use Prim.Native.Nat.{◌≤◌}
use mathlib.Core.Path.{◌≡◌}
use Rattle.keys.specs.Records.{keys_of}
use Rattle.keys.specs.Search.{first_that}
use Rattle.keys.proofs.SeatLaws.{further}
use Rattle.keys.proofs.RecordLaws.{keys_from}
use Rattle.keys.proofs.first_of.Given as goal

abbrev pub invariant-loop-i : goal.invariant-loop-i
invariant-loop-i l = (l.i ≤ l.count) × (first_that l.sought l.key (keys_of l.shape l.count l.bytes) ≡ further l.i (first_that l.sought l.key (keys_from l.shape l.count l.bytes l.i)))
