use mathlib.Core.Bool.{false}
use mathlib.Core.List.{[]}
use Prim.Native.Nat.{◌+◌}
use mathlib.Core.Path.{refl, sym, ◌∙◌}
use native.Mathlib.Omega.{arith}
use Rattle.laws.proofs.Tests.{not_both}
use Rattle.keys.specs.Records.{keys_of}
use Rattle.keys.proofs.OrderLaws.{ordered_none}
use Rattle.keys.proofs.Rising.{rise_climbs, rise_on, rise_ends}
use Rattle.keys.proofs.RecordLaws.{keys_from, keys_all, keys_none, keys_read, keys_first, holds_fewer}
use Rattle.keys.proofs.climb.Goals as goal

pub returns-then-count-eq0 : goal.returns-then-count-eq0
returns-then-count-eq0 c = λ e.
    let a = c.args in
    ordered_none a.range (keys_of a.shape a.count a.bytes.now) [] 0 (sym (keys_all a.shape a.count a.bytes.now) ∙ keys_none a.shape a.count a.bytes.now 0 (omega arith))

pub key_of-last-requires : goal.key_of-last-requires
key_of-last-requires c =
    let a = c.args in
    let pre = c.requires in
    (holds_fewer a.shape a.count 1 a.bytes.now (omega arith) pre.0, pre.1)

pub returns-then-last-range : goal.returns-then-last-range
returns-then-last-range c = λ e. not_both false e refl

pub loop-i-init : goal.loop-i-init
loop-i-init c =
    let a = c.args in
    let k = c.key_of-last in
    (omega arith, omega arith, rise_climbs a.range k.result (keys_from a.shape a.count a.bytes.now 1) (keys_of a.shape a.count a.bytes.now) (keys_first a.shape a.count a.bytes.now k.result k.ensures (omega arith)) (omega arith))

pub key_of-key-requires : goal.key_of-key-requires
key_of-key-requires c =
    let a = c.args in
    let pre = c.requires in
    (holds_fewer a.shape a.count (c.loop-i.i + 1) a.bytes.now (omega arith) pre.0, pre.1)

pub returns-then-key-last : goal.returns-then-key-last
returns-then-key-last c = λ e. not_both false e refl

pub loop-i-preserved : goal.loop-i-preserved
loop-i-preserved c =
    let a = c.args in
    let l = c.loop-i in
    let k = c.key_of-key in
    let rest = keys_from a.shape a.count a.bytes.now (l.i + 1) in
    let read = keys_read a.shape a.count a.bytes.now l.i k.result k.ensures (omega arith) in
    (omega arith, omega arith, λ r. l.invariant.2 (rise_on a.range.to l.last k.result rest (keys_from a.shape a.count a.bytes.now l.i) read (omega arith) r))

pub returns : goal.returns
returns c = λ e.
    let a = c.args in
    let l = c.loop-i in
    l.invariant.2 (rise_ends a.range.to l.last (keys_from a.shape a.count a.bytes.now l.i) (keys_none a.shape a.count a.bytes.now l.i (omega arith)) (sym c.is_before.ensures ∙ e))
