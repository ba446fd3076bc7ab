use mathlib.Core.Path.{◌∙◌}
use native.Mathlib.Omega.{arith}
use Rattle.page.proofs.PageLaws.{page_part, page_length}
use Rattle.tree.proofs.Walk.{accepted_inside, accepted_counts}
use Rattle.tree.proofs.start_for.Goals as goal

pub overflow_add-at : goal.overflow_add-at
overflow_add-at c = omega (arith, accepted_inside _ _ _ c.requires.1)

pub slice_bounds-start_in-end : goal.slice_bounds-start_in-end
slice_bounds-start_in-end c = omega (arith, accepted_inside _ _ _ c.requires.1)

pub start_in-requires : goal.start_in-requires
start_in-requires c =
    let a = c.args in
    let ok = c.requires.1 in
    rw (page_part a.image.now a.p.offset)
    (c.requires.0, page_length a.image.now a.p.offset (accepted_inside a.l a.image.now a.p ok), accepted_counts a.l a.image.now a.p ok)

pub returns : goal.returns
returns c = (c.start_in.ensures.0 ∙ rw page_part, c.start_in.ensures.1)
