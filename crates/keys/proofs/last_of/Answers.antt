use Prim.Native.Nat.{ℕ, ◌+◌, ◌-◌}
use mathlib.Core.Path.{sym, ap, ◌∙◌}
use native.Mathlib.Omega.{arith}
use Rattle.keys.specs.Search.{last_at_most}
use Rattle.keys.proofs.SeatLaws.{most_starts, most_down, most_found, most_ends}
use Rattle.keys.proofs.RecordLaws.{keys_from, holds_fewer}
use Rattle.keys.proofs.last_of.Goals as goal

pub loop-i-init : goal.loop-i-init
loop-i-init c =
    let a = c.args in
    (omega arith, most_starts a.shape a.count a.bytes.now a.key)

pub key_of-requires : goal.key_of-requires
key_of-requires c =
    let a = c.args in
    let pre = c.requires in
    (holds_fewer a.shape a.count (c.loop-i.i - 1 + 1) a.bytes.now (omega arith) pre.0, pre.1)

pub loop-i-smaller : goal.loop-i-smaller
loop-i-smaller c = omega arith

pub loop-i-preserved : goal.loop-i-preserved
loop-i-preserved c =
    let a = c.args in
    let l = c.loop-i in
    (omega arith, most_down a.shape a.count a.bytes.now a.key l.i (l.i - 1) (omega arith) (omega arith) (omega arith) l.invariant.1)

pub returns-then-i-eq0 : goal.returns-then-i-eq0
returns-then-i-eq0 c =
    let a = c.args in
    let l = c.loop-i in
    sym (most_ends a.shape a.count a.bytes.now a.key (ap (λ (i : ℕ). last_at_most a.key (keys_from a.shape a.count a.bytes.now i)) (sym c.if-i-eq0.true) ∙ l.invariant.1))

pub returns-then-key_of-key : goal.returns-then-key_of-key
returns-then-key_of-key c =
    let a = c.args in
    let l = c.loop-i in
    sym (most_found a.shape a.count a.bytes.now a.key l.i (l.i - 1) (omega arith) (omega arith) (omega arith) l.invariant.1)
