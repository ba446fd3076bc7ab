use mathlib.Core.Path.{◌∙◌}
use native.Mathlib.Omega.{arith}
use Rattle.page.proofs.PageLaws.{page_part, page_length}
use Rattle.tree.proofs.Walk.{accepted_inside, accepted_counts}
use Rattle.tree.specs.Answers.{kids_from}
use Rattle.tree.proofs.child_at.Goals as goal

pub overflow_add-at : goal.overflow_add-at
overflow_add-at c = omega (arith, accepted_inside _ _ _ c.requires.1)

pub slice_bounds-next_link-end : goal.slice_bounds-next_link-end
slice_bounds-next_link-end c = omega (arith, accepted_inside _ _ _ c.requires.1)

pub next_link-requires : goal.next_link-requires
next_link-requires c =
    let a = c.args in
    let ok = c.requires.1 in
    rw (page_part a.image.now a.p.offset)
    (c.requires.0, page_length a.image.now a.p.offset (accepted_inside a.l a.image.now a.p ok), accepted_counts a.l a.image.now a.p ok)

pub returns : goal.returns
unfolding kids_from
returns c = c.next_link.ensures ∙ rw page_part
