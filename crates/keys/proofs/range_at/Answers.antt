use Prim.Native.Nat.{◌+◌}
use native.Mathlib.Omega.{arith}
use Rattle.keys.proofs.RecordLaws.{holds_fewer}
use Rattle.keys.proofs.RangeLaws.{range_last, range_next}
use Rattle.keys.proofs.range_at.Goals as goal

pub key_at-from-requires : goal.key_at-from-requires
key_at-from-requires c = let a = c.args in holds_fewer a.shape a.count (a.i + 1) a.bytes.now (omega arith) c.requires.0

pub returns-then-count-next : goal.returns-then-count-next
returns-then-count-next c =
    let a = c.args in
    range_last a.shape a.count a.bytes.now a.i _ a.to c.key_at-from.ensures (omega arith)

pub key_at-end-requires : goal.key_at-end-requires
key_at-end-requires c = let a = c.args in holds_fewer a.shape a.count (a.i + 1 + 1) a.bytes.now (omega arith) c.requires.0

pub returns : goal.returns
returns c =
    let a = c.args in
    range_next a.shape a.count a.bytes.now a.i _ a.to c.key_at-from.ensures _ (omega arith) c.key_at-end.ensures
