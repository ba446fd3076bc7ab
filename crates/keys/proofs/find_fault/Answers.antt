use mathlib.Core.List.{[]}
use Prim.Native.Nat.{◌+◌}
use mathlib.Core.Path.{sym, ◌∙◌}
use native.Mathlib.Omega.{arith}
use borrow.Author.Tests.{lt-ltb, le-ltb}
use Rattle.keys.specs.Records.{keys_of}
use Rattle.keys.proofs.OrderLaws.{ordered_none, first_outside, first_inside, after_none, next_unordered, next_outside, next_climbs}
use Rattle.keys.proofs.RecordLaws.{keys_from, keys_all, keys_none, keys_read, keys_first, holds_fewer}
use Rattle.laws.proofs.Tests.{fails, holds}
use Rattle.keys.proofs.find_fault.Goals as goal

pub returns-then-count-eq0 : goal.returns-then-count-eq0
returns-then-count-eq0 c =
    let a = c.args in
    sym (ordered_none a.range (keys_of a.shape a.count a.bytes.now) [] 0 (sym (keys_all a.shape a.count a.bytes.now) ∙ keys_none a.shape a.count a.bytes.now 0 (omega arith)))

pub key_at-last-requires : goal.key_at-last-requires
key_at-last-requires c =
    let a = c.args in
    holds_fewer a.shape a.count 1 a.bytes.now (omega arith) c.requires

pub returns-then-not-in_range : goal.returns-then-not-in_range
returns-then-not-in_range c =
    let a = c.args in
    let k = c.key_at-last in
    sym (first_outside a.range (keys_of a.shape a.count a.bytes.now) (keys_from a.shape a.count a.bytes.now 1) k.result (keys_first a.shape a.count a.bytes.now k.result k.ensures (omega arith)) (fails _ _ c.in_range.ensures c.if-not-in_range.true))

pub loop-i-init : goal.loop-i-init
loop-i-init c =
    let a = c.args in
    let k = c.key_at-last in
    (omega arith, omega arith, first_inside a.range (keys_of a.shape a.count a.bytes.now) (keys_from a.shape a.count a.bytes.now 1) k.result (keys_first a.shape a.count a.bytes.now k.result k.ensures (omega arith)) (holds _ _ c.in_range.ensures c.if-not-in_range.false))

pub key_at-key-requires : goal.key_at-key-requires
key_at-key-requires c =
    let a = c.args in
    holds_fewer a.shape a.count (c.loop-i.i + 1) a.bytes.now (omega arith) c.requires

pub returns-then-not-above : goal.returns-then-not-above
returns-then-not-above c =
    let a = c.args in
    let l = c.loop-i in
    let k = c.key_at-key in
    sym (l.invariant.2 ∙ next_unordered a.range (keys_from a.shape a.count a.bytes.now l.i) (keys_from a.shape a.count a.bytes.now (l.i + 1)) k.result l.i l.last (keys_read a.shape a.count a.bytes.now l.i k.result k.ensures (omega arith)) (le-ltb l.last k.result c.if-not-above.true))

pub returns-then-not-inside : goal.returns-then-not-inside
returns-then-not-inside c =
    let a = c.args in
    let l = c.loop-i in
    let k = c.key_at-key in
    sym (l.invariant.2 ∙ next_outside a.range (keys_from a.shape a.count a.bytes.now l.i) (keys_from a.shape a.count a.bytes.now (l.i + 1)) k.result l.i l.last (keys_read a.shape a.count a.bytes.now l.i k.result k.ensures (omega arith)) (lt-ltb l.last k.result c.if-not-above.false) (fails _ _ c.in_range-inside.ensures c.if-not-inside.true))

pub loop-i-preserved : goal.loop-i-preserved
loop-i-preserved c =
    let a = c.args in
    let l = c.loop-i in
    let k = c.key_at-key in (
      omega arith,
      omega arith,
      l.invariant.2 ∙ next_climbs a.range (keys_from a.shape a.count a.bytes.now l.i) (keys_from a.shape a.count a.bytes.now (l.i + 1)) k.result l.i l.last (keys_read a.shape a.count a.bytes.now l.i k.result k.ensures (omega arith)) (lt-ltb l.last k.result c.if-not-above.false) (holds _ _ c.in_range-inside.ensures c.if-not-inside.false),
    )

pub returns : goal.returns
returns c =
    let a = c.args in
    let l = c.loop-i in
    sym (l.invariant.2 ∙ after_none a.range (keys_from a.shape a.count a.bytes.now l.i) [] 0 l.i l.last (keys_none a.shape a.count a.bytes.now l.i (omega arith)))
