use mathlib.Core.Path.{◌∙◌}
use native.Mathlib.Omega.{arith}
use Rattle.page.proofs.PageLaws.{page_part}
use Rattle.tree.proofs.Walk.{accepted_inside}
use Rattle.tree.proofs.entry_for.Goals as goal

pub overflow_add-at : goal.overflow_add-at
overflow_add-at c = omega (arith, accepted_inside _ _ _ c.requires.1)

pub slice_bounds-shape_in-end : goal.slice_bounds-shape_in-end
slice_bounds-shape_in-end c = omega (arith, accepted_inside _ _ _ c.requires.1)

pub returns : goal.returns
returns c = c.shape_in.ensures ∙ rw page_part
