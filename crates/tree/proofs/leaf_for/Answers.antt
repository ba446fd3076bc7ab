use mathlib.Core.Path.{◌∙◌}
use native.Mathlib.Omega.{arith}
use Rattle.page.proofs.PageLaws.{page_part, page_length}
use Rattle.tree.proofs.Walk.{accepted_inside, accepted_counts}
use Rattle.tree.proofs.leaf_for.Goals as goal

pub overflow_add-at : goal.overflow_add-at
overflow_add-at c = omega (arith, accepted_inside _ _ _ c.requires.1)

pub slice_bounds-leaf_answer-end : goal.slice_bounds-leaf_answer-end
slice_bounds-leaf_answer-end c = omega (arith, accepted_inside _ _ _ c.requires.1)

pub leaf_answer-requires : goal.leaf_answer-requires
leaf_answer-requires c =
    let a = c.args in
    let ok = c.requires.1 in
    rw (page_part a.image.now a.p.offset)
    (c.requires.0, page_length a.image.now a.p.offset (accepted_inside a.l a.image.now a.p ok), accepted_counts a.l a.image.now a.p ok, c.requires.2)

pub returns : goal.returns
returns c = c.leaf_answer.ensures ∙ rw page_part
