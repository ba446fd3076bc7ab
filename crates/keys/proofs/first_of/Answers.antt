use Prim.Native.Nat.{◌+◌}
use mathlib.Core.Path.{sym, ap, ◌∙◌}
use native.Mathlib.Omega.{arith}
use Rattle.keys.specs.Search.{meets}
use Rattle.keys.proofs.SeatLaws.{first_starts, first_here, first_on, first_ends}
use Rattle.keys.proofs.RecordLaws.{holds_fewer}
use Rattle.keys.proofs.first_of.Goals as goal

pub loop-i-init : goal.loop-i-init
loop-i-init c =
    let a = c.args in
    (omega arith, first_starts a.shape a.count a.bytes.now a.key a.sought)

pub key_of-requires : goal.key_of-requires
key_of-requires c =
    let a = c.args in
    let pre = c.requires in
    (holds_fewer a.shape a.count (c.loop-i.i + 1) a.bytes.now (omega arith) pre.0, pre.1)

pub loop-i-preserved : goal.loop-i-preserved
loop-i-preserved c =
    let a = c.args in
    let l = c.loop-i in
    (omega arith, l.invariant.1 ∙ first_on a.shape a.count a.bytes.now a.key a.sought l.i (omega arith) (ap (meets a.sought a.key) (sym c.key_of.ensures) ∙ sym c.meets.ensures ∙ c.if-meets.false))

pub returns : goal.returns
returns c =
    let a = c.args in
    let l = c.loop-i in
    sym (l.invariant.1 ∙ first_ends a.shape a.count a.bytes.now a.key a.sought l.i (omega arith))

pub returns-then-meets : goal.returns-then-meets
returns-then-meets c =
    let a = c.args in
    let l = c.loop-i in
    sym (l.invariant.1 ∙ first_here a.shape a.count a.bytes.now a.key a.sought l.i (omega arith) (ap (meets a.sought a.key) (sym c.key_of.ensures) ∙ sym c.meets.ensures ∙ c.if-meets.true))
