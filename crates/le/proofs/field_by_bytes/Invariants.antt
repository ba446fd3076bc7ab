use Prim.Native.Nat.{◌+◌, ◌-◌, ◌^◌, ◌<◌}
use mathlib.Core.Path.{◌≡◌}
use Rattle.le.specs.Bytes.{field}
use Rattle.le.proofs.field_by_bytes.Given as goal

abbrev pub invariant-loop-i : goal.invariant-loop-i
invariant-loop-i l =
    (l.sum ≡ field l.bytes (l.place + l.i) (l.width - l.i)) × (l.sum < 256 ^ (l.width - l.i))
