use Rattle.std.proofs.Common.{rules, ◌≡◌, Err}
use mathlib.Core.Path.{◌∙◌}
use native.Mathlib.Omega.{arith}
use Rattle.tree.specs.Answers.{kids_from}
use Rattle.tree.proofs.Walk.{walk_none, walk_refused, walk_on, page_refused, page_alone, page_index}
use Rattle.tree.proofs.Children.{more, no_more}
use Rattle.tree.proofs.+check_children_check_under.Goals as goal
use Rattle.tree.proofs.+check_children_check_under.Goals.{check_children-then-level-eq0+in_ok-verdict_on, check_children-else-level-eq0+in_ok-check_under}

pub check_children-returns-in_err-verdict_on : goal.check_children-returns-in_err-verdict_on
check_children-returns-in_err-verdict_on t c =
    let a = c.args in
    let l = c.loop-i in
    let child = c.link_for-child in
    let e : c.from_residual.result ≡ Err c.in_err-verdict_on.field-0.0 = search rules in
    e ∙ walk_refused a.l a.image.now a.level _ _ _ (more a.l a.image.now a.level a.p l.i child.result child.ensures).1 _ (page_alone a.l a.image.now a.level child.result _ c.in_err-verdict_on.ensures c.if-level-eq0.true) ∙ l.invariant

pub check_children-returns-in_err-check_under : goal.check_children-returns-in_err-check_under
check_children-returns-in_err-check_under t c =
    let a = c.args in
    let l = c.loop-i in
    let child = c.link_for-child in
    let e : c.from_residual-in_err-check_under.result ≡ Err c.in_err-check_under.field-0.0 = search rules in
    e ∙ walk_refused a.l a.image.now a.level _ _ _ (more a.l a.image.now a.level a.p l.i child.result child.ensures).1 _ c.in_err-check_under.ensures ∙ l.invariant

pub check_children-loop-i-preserved : goal.check_children-loop-i-preserved
check_children-loop-i-preserved t c =
    let a = c.args in
    let l = c.loop-i in
    let child = c.link_for-child in
    let kids = (more a.l a.image.now a.level a.p l.i child.result child.ensures).1 in
    elim c.if-level-eq0.branch [
      | check_children-then-level-eq0+in_ok-verdict_on w ↦ walk_on a.l a.image.now a.level _ _ _ kids (page_alone a.l a.image.now a.level child.result _ w.in_ok-verdict_on.ensures w.if-level-eq0.true)
      | check_children-else-level-eq0+in_ok-check_under w ↦ walk_on a.l a.image.now a.level _ _ _ kids w.in_ok-check_under.ensures
    ]
    ∙ l.invariant

pub check_children-returns : goal.check_children-returns
check_children-returns t c =
    let a = c.args in
    let l = c.loop-i in
    let most = c.count_for-count.ensures.0 in
    walk_none a.l a.image.now a.level (kids_from a.l a.image.now a.level a.p l.i) (no_more a.l a.image.now a.level a.p l.i (omega (arith, most))) ∙ l.invariant

pub check_under-returns-in_err-verdict_on : goal.check_under-returns-in_err-verdict_on
check_under-returns-in_err-verdict_on t c =
    let a = c.args in
    let e : c.from_residual.result ≡ Err c.in_err-verdict_on.field-0.0 = search rules in
    e ∙ page_refused a.l a.image.now a.level a.p _ c.in_err-verdict_on.ensures

pub check_under-returns-then-level-eq0 : goal.check_under-returns-then-level-eq0
check_under-returns-then-level-eq0 t c =
    let a = c.args in
    page_alone a.l a.image.now a.level a.p _ c.in_ok-verdict_on.ensures c.if-level-eq0.true

pub check_under-returns : goal.check_under-returns
check_under-returns t c =
    let a = c.args in
    c.check_children.ensures ∙ page_index a.l a.image.now a.level a.p c.if-level-eq0.false c.in_ok-verdict_on.ensures
