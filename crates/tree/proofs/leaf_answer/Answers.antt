use Rattle.tree.proofs.Steps.{leaf_none, leaf_some}
use mathlib.Core.Path.{sym, ap, ◌∙◌}
use native.Mathlib.Omega.{arith}
use Rattle.tree.proofs.Children.{seen_none, seen_inside, seen_some, leaf_record, leaf_inside}
use Rattle.page.specs.Layout.{shape}
use Rattle.page.proofs.PageLaws.{entries_held}
use Rattle.tree.proofs.leaf_answer.Goals as goal

pub first_that-requires : goal.first_that-requires
first_that-requires c =
    let a = c.args in
    let pre = c.requires in
    rw (c.shape_of-shape.ensures ∙ ap (shape a.l) (sym pre.3), c.count_of-count.ensures.0) (entries_held a.l a.p a.page.now pre.0 pre.2 pre.1)

pub returns-in_default : goal.returns-in_default
returns-in_default c =
    let a = c.args in
    let pre = c.requires in
    leaf_none a.l _ a.pages
    (seen_none a.l a.page.now a.sought a.key
    (rw (c.shape_of-shape.ensures ∙ ap (shape a.l) (sym pre.3), c.count_of-count.ensures.0) at (sym c.first_that.ensures ∙ c.in_default.is)))

pub overflow_mul-i : goal.overflow_mul-i
overflow_mul-i c =
    let a = c.args in
    let pre = c.requires in
    omega (
      arith,
      leaf_inside a.l a.p a.page.now pre.0 pre.1 pre.2 pre.3 c.in-Some.i
          (seen_inside a.l a.page.now a.sought a.key c.in-Some.i (rw (c.shape_of-shape.ensures ∙ ap (shape a.l) (sym pre.3), c.count_of-count.ensures.0) at (sym c.first_that.ensures ∙ c.in-Some.is))),
    )

pub fields_at-requires : goal.fields_at-requires
fields_at-requires c =
    let a = c.args in
    let pre = c.requires in (
      pre.0,
      omega (
        arith,
        leaf_inside a.l a.p a.page.now pre.0 pre.1 pre.2 pre.3 c.in-Some.i
            (seen_inside a.l a.page.now a.sought a.key c.in-Some.i (rw (c.shape_of-shape.ensures ∙ ap (shape a.l) (sym pre.3), c.count_of-count.ensures.0) at (sym c.first_that.ensures ∙ c.in-Some.is))),
      ),
    )

pub returns : goal.returns
returns c =
    let a = c.args in
    let pre = c.requires in
    rw (c.fields_at.ensures, ← (leaf_record a.l a.p a.page.now pre.0 pre.1 pre.2 pre.3 c.in-Some.i))
    (leaf_some a.l _ a.pages _ (seen_some a.l a.page.now a.sought a.key c.in-Some.i (rw (c.shape_of-shape.ensures ∙ ap (shape a.l) (sym pre.3), c.count_of-count.ensures.0) at (sym c.first_that.ensures ∙ c.in-Some.is))))
