use Rattle.block.specs.Block.{internal}
use mathlib.Core.Path.{sym, ap, ◌∙◌}
use native.Mathlib.Omega.{arith}
use Rattle.node.specs.Content.{none_internal}
use Rattle.node.proofs.Numbers.{rest_all, internal_here, internal_on, internal_none, number_inside}
use Rattle.node.proofs.none_internal.Goals as goal

pub loop-i-init : goal.loop-i-init
loop-i-init c =
    let a = c.args in
    (omega arith, ap none_internal (sym (rest_all a.d a.root.now a.count)))

pub number_at-requires : goal.number_at-requires
number_at-requires c = (c.requires.0, number_inside c.args.d.word c.args.count c.loop-i.i c.args.root.now c.requires.1 (omega arith), omega arith)

pub returns-then-is_internal : goal.returns-then-is_internal
returns-then-is_internal c =
    let a = c.args in
    let l = c.loop-i in
    sym (l.invariant.1 ∙ internal_here a.d a.root.now a.count l.i (omega arith) (ap internal (sym c.number_at.ensures) ∙ sym c.is_internal.ensures ∙ c.if-is_internal.true))

pub loop-i-preserved : goal.loop-i-preserved
loop-i-preserved c =
    let a = c.args in
    let l = c.loop-i in
    (omega arith, l.invariant.1 ∙ internal_on a.d a.root.now a.count l.i (omega arith) (ap internal (sym c.number_at.ensures) ∙ sym c.is_internal.ensures ∙ c.if-is_internal.false))

pub returns : goal.returns
returns c =
    let a = c.args in
    let l = c.loop-i in
    sym (l.invariant.1 ∙ internal_none a.d a.root.now a.count l.i (omega arith))
