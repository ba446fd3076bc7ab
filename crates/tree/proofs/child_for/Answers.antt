use mathlib.Core.Path.{ap, ◌∙◌}
use native.Mathlib.Omega.{arith}
use Rattle.page.proofs.PageLaws.{page_part, page_length}
use Rattle.tree.proofs.Walk.{accepted_inside, accepted_counts}
use Rattle.tree.specs.Answers.{next_of}
use Rattle.tree.proofs.Children.{chosen_is}
use Rattle.tree.proofs.child_for.Goals as goal

pub overflow_add-at : goal.overflow_add-at
overflow_add-at c = omega (arith, accepted_inside _ _ _ c.requires.1)

pub slice_bounds-choose-end : goal.slice_bounds-choose-end
slice_bounds-choose-end c = omega (arith, accepted_inside _ _ _ c.requires.1)

pub choose-requires : goal.choose-requires
choose-requires c =
    let a = c.args in
    let ok = c.requires.1 in
    rw (page_part a.image.now a.p.offset)
    (c.requires.0, page_length a.image.now a.p.offset (accepted_inside a.l a.image.now a.p ok), accepted_counts a.l a.image.now a.p ok)

pub returns : goal.returns
returns c =
    let a = c.args in
    c.choose.ensures ∙ rw page_part (ap next_of (chosen_is a.l a.image.now a.level a.p a.key))
