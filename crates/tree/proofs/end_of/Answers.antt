use Rattle.std.proofs.Common.{rules, ◌∙◌, ap, subst, Ok}
use Rattle.tree.specs.Answers.{shown}
use Rattle.tree.specs.Ways.{at_end, Leading, FromRoot}
use Rattle.tree.proofs.end_of.Goals as goal

pub returns-in_err-leaf : goal.returns-in_err-leaf
unfolding at_end shown
returns-in_err-leaf c = search rules

pub leaf_for-requires : goal.leaf_for-requires
unfolding Leading
leaf_for-requires c =
    let a = c.args in
    let pre = c.requires in
    let t = subst (FromRoot a.l a.image.now) (c.in_ok-leaf.was ∙ ap Ok c.in-Entry.is) pre.1 in
    (pre.0, t.accepted, t.is_leaf)

pub returns-in-Entry : goal.returns-in-Entry
unfolding at_end
returns-in-Entry c = search rules

pub returns-in-Absent : goal.returns-in-Absent
unfolding at_end shown
returns-in-Absent c = search rules
