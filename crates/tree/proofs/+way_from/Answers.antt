use Rattle.std.proofs.Common.{rules, ◌≡◌, Err}
use Prim.Native.Nat.{◌-◌}
use mathlib.Core.Path.{sym, ◌∙◌}
use native.Mathlib.Omega.{arith}
use Rattle.search.specs.SearchTree.{children}
use Rattle.tree.specs.Tree.{page_tree}
use Rattle.tree.proofs.Steps.{next_chosen, next_missing, chosen_level}
use Rattle.tree.proofs.Ways.{end_leaf, leads_leaf, end_none, end_one, end_refused, leads_on, leads_nowhere, leads_refused}
use Rattle.tree.proofs.+way_from.Goals as goal

pub returns-then-level-eq0 : goal.returns-then-level-eq0
returns-then-level-eq0 t c =
    let a = c.args in
    let pre = c.requires in
    (end_leaf a.l a.image.now a.pages a.p pre.1 a.key a.level c.if-level-eq0.true, leads_leaf a.l a.image.now a.pages a.p pre.1 a.level c.if-level-eq0.true pre.2)

pub returns-in_default : goal.returns-in_default
returns-in_default t c =
    let a = c.args in
    let pre = c.requires in (
      end_none a.l a.image.now a.pages a.p pre.1 a.level c.if-level-eq0.false a.key (next_missing _ (sym c.child_for.ensures ∙ c.in_default.is)),
      leads_nowhere a.l a.image.now _ _ _ _,
    )

pub returns-in_err-verdict_on : goal.returns-in_err-verdict_on
returns-in_err-verdict_on t c =
    let a = c.args in
    let pre = c.requires in
    let went = next_chosen a.l a.image.now a.key (children (page_tree a.l a.image.now) (a.level - 1) a.p) _ (sym c.child_for.ensures ∙ c.in-Some.is) in
    let e : c.from_residual.result ≡ Err c.in_err-verdict_on.field-0.0 = search rules in
    rw e (
      end_refused a.l a.image.now a.pages a.p pre.1 a.level c.if-level-eq0.false c.in-Some.child a.key went _ (sym c.in_err-verdict_on.ensures),
      leads_refused a.l a.image.now _ _ _ _,
    )

pub way_from-requires : goal.way_from-requires
way_from-requires t c =
    let a = c.args in
    let pre = c.requires in
    let ok = sym c.in_ok-verdict_on.ensures in
    let went = next_chosen a.l a.image.now a.key (children (page_tree a.l a.image.now) (a.level - 1) a.p) _ (sym c.child_for.ensures ∙ c.in-Some.is) in (
      omega arith,
      (pre.0, ok, chosen_level a.l a.image.now a.key (a.level - 1) a.p c.in-Some.child went ok, omega arith),
    )

pub returns : goal.returns
returns t c =
    let a = c.args in
    let pre = c.requires in
    let child = c.in-Some.child in
    let went = next_chosen a.l a.image.now a.key (children (page_tree a.l a.image.now) (a.level - 1) a.p) _ (sym c.child_for.ensures ∙ c.in-Some.is) in
    let index = c.if-level-eq0.false in (
      c.way_from.ensures.0 ∙ end_one a.l a.image.now a.pages a.p pre.1 a.level index child a.key went,
      leads_on a.l a.image.now a.pages a.p pre.1 a.level index child a.key went _ c.way_from.ensures.1,
    )
