use Prim.Native.Nat.{ℕ}
use mathlib.Core.List.{List, ◌++◌}
use Rattle.laws.proofs.Tests.{fails, holds}
use Rattle.refusal.specs.Order.{in_order}
use Rattle.page.specs.Page.{bytes_rules, keys_in, key_rules}
use Rattle.page.proofs.PageLaws.{offset_inside, page_part, page_goes, page_ends}
use mathlib.Core.Path.{ap, ◌∙◌}
use native.Mathlib.Omega.{arith}
use Rattle.page.proofs.check_page.Goals as goal

pub returns-then-not-offset_fits : goal.returns-then-not-offset_fits
returns-then-not-offset_fits c = c.refused_at.ensures ∙ page_ends _ _ _ (fails _ _ c.offset_fits.ensures c.if-not-offset_fits.true)

pub overflow_add-at : goal.overflow_add-at
overflow_add-at c = omega (arith, offset_inside _ _ (holds _ _ c.offset_fits.ensures c.if-not-offset_fits.false))

pub slice_bounds-check_bytes-end : goal.slice_bounds-check_bytes-end
slice_bounds-check_bytes-end c = omega (arith, offset_inside _ _ (holds _ _ c.offset_fits.ensures c.if-not-offset_fits.false))

pub returns : goal.returns
returns c =
    let a = c.args in
    c.check_bytes.ensures
    ∙ ap (λ (g : List ℕ). in_order (bytes_rules a.l a.p g ++ key_rules a.p (keys_in a.l g))) (page_part a.image.now a.p.offset)
    ∙ page_goes a.l a.image.now a.p (holds _ _ c.offset_fits.ensures c.if-not-offset_fits.false)
