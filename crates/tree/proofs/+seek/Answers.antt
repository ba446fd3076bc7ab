use Rattle.std.proofs.Common.{rules, ◌≡◌, Ok, Err}
use Prim.Native.Nat.{◌-◌}
use mathlib.Core.Path.{sym, ap, ◌∙◌}
use native.Mathlib.Omega.{arith}
use Rattle.tree.specs.Answers.{shown}
use Rattle.tree.proofs.Walk.{next_level}
use Rattle.tree.proofs.Searched.{sorted, filled}
use Rattle.tree.specs.Tree.{page_tree}
use Rattle.search.proofs.Few.{absent_few}
use Rattle.tree.proofs.Steps.{way_refused, way_leaf}
use Rattle.keys.specs.declared.Sought.TheVariants.{AtLeast}
use Rattle.tree.proofs.Seeks.{absent_pages, refused_stays, entry_stays, seek_none, seek_first, seek_last, seek_second}
use Rattle.tree.proofs.+seek.Goals as goal

pub returns-in_err-verdict_on : goal.returns-in_err-verdict_on
returns-in_err-verdict_on t c =
    let a = c.args in
    let e : c.from_residual.result ≡ Err c.in_err-verdict_on.field-0.0 = search rules in
    e ∙ way_refused a.l a.image.now AtLeast a.key a.pages a.p a.level _ c.in_err-verdict_on.ensures

pub returns-then-level-eq0 : goal.returns-then-level-eq0
returns-then-level-eq0 t c =
    let a = c.args in
    c.leaf_for.ensures ∙ way_leaf a.l a.image.now AtLeast a.key a.pages a.p a.level c.if-level-eq0.true c.in_ok-verdict_on.ensures

pub returns-in_default : goal.returns-in_default
returns-in_default t c =
    let a = c.args in
    seek_none a.l a.image.now a.key a.pages a.p c.in_ok-verdict_on.ensures a.level _ c.if-level-eq0.false c.start_for-i.ensures.0 (sym c.child_at.ensures ∙ c.in_default.is)

pub seek-requires : goal.seek-requires
seek-requires t c =
    let a = c.args in
    let pre = c.requires in (
      omega arith,
      (
        pre.0,
        next_level a.l a.image.now (a.level - 1) a.p c.in-Some.child _ (sym c.child_at.ensures ∙ c.in-Some.is),
        omega arith,
        omega arith,
      ),
    )

pub returns-in_err-found : goal.returns-in_err-found
returns-in_err-found t c =
    let a = c.args in
    let e : c.from_residual-in_err-found.result ≡ Err c.in_err-found.field-0.0 = search rules in
    e ∙ seek_first a.l a.image.now a.key a.pages a.p c.in_ok-verdict_on.ensures a.level _ c.if-level-eq0.false c.start_for-i.ensures.0 _ (sym c.child_at.ensures ∙ c.in-Some.is) _ c.in_err-found.ensures (refused_stays _)

pub returns-in_default-found : goal.returns-in_default-found
returns-in_default-found t c =
    let a = c.args in
    seek_first a.l a.image.now a.key a.pages a.p c.in_ok-verdict_on.ensures a.level _ c.if-level-eq0.false c.start_for-i.ensures.0 _ (sym c.child_at.ensures ∙ c.in-Some.is) _ c.in_ok-found.ensures (entry_stays _ c.in_default-found.not-Absent)

pub returns-in_default-child_at : goal.returns-in_default-child_at
returns-in_default-child_at t c =
    let a = c.args in
    let nothing = sym (ap Ok c.in-Absent.is) ∙ c.in_ok-found.ensures in
    seek_last a.l a.image.now a.key a.pages a.p c.in_ok-verdict_on.ensures a.level _ c.if-level-eq0.false c.start_for-i.ensures.0 _ (sym c.child_at.ensures ∙ c.in-Some.is) _ nothing (sym c.child_at-2.ensures ∙ c.in_default-child_at.is)

pub seek-requires-2 : goal.seek-requires-2
seek-requires-2 t c =
    let a = c.args in
    let pre = c.requires in
    let nothing = sym (ap Ok c.in-Absent.is) ∙ c.in_ok-found.ensures in
    let read = absent_pages a.l a.pages _ _ nothing (a.level - 1) (absent_few (page_tree a.l a.image.now) (sorted a.l a.image.now) (filled a.l a.image.now) a.key (a.level - 1) c.in-Some.child) in (
      omega arith,
      (
        pre.0,
        next_level a.l a.image.now (a.level - 1) a.p c.in-Some-child_at.further _ (sym c.child_at-2.ensures ∙ c.in-Some-child_at.is),
        omega arith,
        omega (arith, read),
      ),
    )

pub returns : goal.returns
returns t c =
    let a = c.args in
    let nothing = sym (ap Ok c.in-Absent.is) ∙ c.in_ok-found.ensures in
    c.seek-2.ensures ∙ ap (shown a.l) (seek_second a.l a.image.now a.key a.pages a.p c.in_ok-verdict_on.ensures a.level _ c.if-level-eq0.false c.start_for-i.ensures.0 _ (sym c.child_at.ensures ∙ c.in-Some.is) _ nothing _ (sym c.child_at-2.ensures ∙ c.in-Some-child_at.is))
