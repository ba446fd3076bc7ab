use mathlib.Core.Path.{◌∙◌}
use native.Mathlib.Omega.{arith}
use Rattle.laws.proofs.Tests.{fails, holds, not_both}
use Rattle.page.proofs.PageLaws.{offset_inside, page_part}
use Rattle.tree.proofs.stated_level.Goals as goal

pub returns-then-not-offset_fits : goal.returns-then-not-offset_fits
returns-then-not-offset_fits c = (λ e. not_both _ e (fails _ _ c.offset_fits.ensures c.if-not-offset_fits.true), omega arith)

pub overflow_add-at : goal.overflow_add-at
overflow_add-at c = omega (arith, offset_inside _ _ (holds _ _ c.offset_fits.ensures c.if-not-offset_fits.false))

pub slice_bounds-level_of-end : goal.slice_bounds-level_of-end
slice_bounds-level_of-end c = omega (arith, offset_inside _ _ (holds _ _ c.offset_fits.ensures c.if-not-offset_fits.false))

pub returns : goal.returns
returns c = (λ e. c.level_of.ensures.0 ∙ rw page_part, omega arith)
