use Prim.Native.Nat.{ℕ}
use Rattle.std.proofs.Common.{rules, ◌≡◌, sym, ap, ◌∙◌, Err}
use native.Mathlib.Omega.{arith}
use mathlib.Core.List.{List}
use lib.ListN.{length}
use Rattle.laws.proofs.Tests.{fails, holds}
use Rattle.laws.specs.Front.{fronted}
use Rattle.node.specs.Content.{count_in}
use Rattle.node.proofs.Numbers.{same_whole}
use Rattle.node.proofs.Outcomes.{outcome_of, refused_outcome, short_outcome, done_outcome, shape_of, tree_shapeless, tree_fault, tree_other_sum, tree_bytes, failed, passed}
use Rattle.node.proofs.read_root.Goals as goal

pub returns-then-not-shape_fits : goal.returns-then-not-shape_fits
returns-then-not-shape_fits c =
    let a = c.args in
    let o = outcome_of _ _ a.out.now _ _ (tree_shapeless a.e a.image.now a.offset a.root.now (fails _ _ c.shape_fits.ensures c.if-not-shape_fits.true)) (refused_outcome _ a.out.now) in
    record { answer = c.refused_at.ensures ∙ o.0; buffer = o.1 }

pub field2-count-requires : goal.field2-count-requires
field2-count-requires c =
    let a = c.args in
    omega (arith, (shape_of a.e.tree a.root.now (holds _ _ c.shape_fits.ensures c.if-not-shape_fits.false)).long)

pub measure-requires : goal.measure-requires
unfolding count_in
measure-requires c =
    let a = c.args in
    let s = shape_of a.e.tree a.root.now (holds _ _ c.shape_fits.ensures c.if-not-shape_fits.false) in
    (c.requires.0, omega (arith, s.size, same_whole a.e.tree.word c.field2-count.ensures), omega arith, c.requires.1)

pub returns-in_err-sum : goal.returns-in_err-sum
unfolding count_in
returns-in_err-sum c =
    let a = c.args in
    let e : c.from_residual.result ≡ Err c.in_err-sum.field-0.0 = search rules in
    let f = failed a.e a.image.now a.root.now c.field2-count.result _ c.field2-count.ensures c.measure.ensures _ c.in_err-sum.was in
    let o = outcome_of _ _ a.out.now _ _ (tree_fault a.e a.image.now a.offset a.root.now (holds _ _ c.shape_fits.ensures c.if-not-shape_fits.false) _ f) (refused_outcome _ a.out.now) in
    record { answer = e ∙ o.0; buffer = o.1 }

pub field4-requires : goal.field4-requires
field4-requires c =
    let a = c.args in
    omega (arith, (shape_of a.e.tree a.root.now (holds _ _ c.shape_fits.ensures c.if-not-shape_fits.false)).long)

pub returns-then-sum-field4 : goal.returns-then-sum-field4
unfolding count_in
returns-then-sum-field4 c =
    let a = c.args in
    let p = passed a.e a.image.now a.root.now c.field2-count.result _ c.field2-count.ensures c.measure.ensures _ c.in_ok-sum.was in
    let o = outcome_of _ _ a.out.now _ _ (tree_other_sum a.e a.image.now a.offset a.root.now (holds _ _ c.shape_fits.ensures c.if-not-shape_fits.false) p.kids p.are (λ e. c.if-sum-field4.true (sym p.sum ∙ e ∙ sym c.field4.ensures))) (refused_outcome _ a.out.now) in
    record { answer = c.refused_at-then-sum-field4.ensures ∙ o.0; buffer = o.1 }

pub returns-then-out-sum : goal.returns-then-out-sum
unfolding count_in
returns-then-out-sum c =
    let a = c.args in
    let p = passed a.e a.image.now a.root.now c.field2-count.result _ c.field2-count.ensures c.measure.ensures _ c.in_ok-sum.was in
    let o = outcome_of _ _ a.out.now _ _ (tree_bytes a.e a.image.now a.offset a.root.now (holds _ _ c.shape_fits.ensures c.if-not-shape_fits.false) p.kids p.are (p.sum ∙ c.if-sum-field4.false ∙ c.field4.ensures)) (short_outcome _ a.out.now _ (sym p.long) (omega arith)) in
    record { answer = c.refused_needing.ensures ∙ o.0; buffer = o.1 }

pub gather-requires : goal.gather-requires
unfolding count_in
gather-requires c =
    let a = c.args in
    let s = shape_of a.e.tree a.root.now (holds _ _ c.shape_fits.ensures c.if-not-shape_fits.false) in
    let p = passed a.e a.image.now a.root.now c.field2-count.result _ c.field2-count.ensures c.measure.ensures _ c.in_ok-sum.was in
    let f = c.field2-count.ensures in
    record { fair_edition = (c.requires.0, omega (arith, s.size, same_whole a.e.tree.word f), omega arith, p.listed, c.requires.1); count_in_bounds = omega (arith, ap length p.joins, p.long) }

pub returns : goal.returns
unfolding count_in
returns c =
    let a = c.args in
    let p = passed a.e a.image.now a.root.now c.field2-count.result _ c.field2-count.ensures c.measure.ensures _ c.in_ok-sum.was in
    let o = outcome_of _ _ a.out.now _ _ (tree_bytes a.e a.image.now a.offset a.root.now (holds _ _ c.shape_fits.ensures c.if-not-shape_fits.false) p.kids p.are (p.sum ∙ c.if-sum-field4.false ∙ c.field4.ensures)) (done_outcome _ a.out.now _ (sym p.long) (omega arith)) in
    record { answer = o.0; buffer = c.gather.ensures ∙ ap (λ (s : List ℕ). fronted s a.out.now) p.joins ∙ o.1 }
