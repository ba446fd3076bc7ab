use mathlib.Core.Path.{◌∙◌}
use native.Mathlib.Omega.{arith}
use Rattle.page.proofs.PageLaws.{page_part}
use Rattle.tree.proofs.Walk.{accepted_inside}
use Rattle.tree.proofs.count_for.Goals as goal

pub overflow_add-at : goal.overflow_add-at
overflow_add-at c = omega (arith, accepted_inside _ _ _ c.requires.1)

pub slice_bounds-count_of-end : goal.slice_bounds-count_of-end
slice_bounds-count_of-end c = omega (arith, accepted_inside _ _ _ c.requires.1)

pub returns : goal.returns
returns c = (c.count_of.ensures.0 ∙ rw page_part, c.count_of.ensures.1)
