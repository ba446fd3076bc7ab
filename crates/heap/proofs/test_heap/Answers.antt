use mathlib.Core.Path.{sym, ◌∙◌}
use native.Mathlib.Omega.{arith}
use lib.ListN.{length}
use Rattle.heap.specs.Shape.{map_end}
use borrow.Author.Tests.{leb-true, leb-false}
use Rattle.laws.proofs.Tests.{fails, holds}
use Rattle.heap.proofs.ShapeLaws.{heap_exactly, not_heap, offsets_fall, is_heap}
use Rattle.heap.proofs.test_heap.Goals as goal

pub returns-then-block-lt12 : goal.returns-then-block-lt12
returns-then-block-lt12 c =
    let a = c.args in
    c.refused_at-wrong.ensures ∙ sym (not_heap a.block.now (λ h. omega (arith, h.long)))

pub returns-then-block-gt8180 : goal.returns-then-block-gt8180
returns-then-block-gt8180 c =
    let a = c.args in
    c.refused_at-wrong.ensures ∙ sym (not_heap a.block.now (λ h. omega (arith, h.short)))

pub returns-then-byte_at-ne236 : goal.returns-then-byte_at-ne236
returns-then-byte_at-ne236 c =
    let a = c.args in
    c.refused_at-wrong.ensures ∙ sym (not_heap a.block.now (λ h. c.if-byte_at-ne236.true (c.byte_at.ensures ∙ h.mark)))

pub returns-then-map_offset-lt12 : goal.returns-then-map_offset-lt12
returns-then-map_offset-lt12 c =
    let a = c.args in
    c.refused_at-wrong.ensures ∙ sym (not_heap a.block.now (λ h. omega (arith, h.map)))

pub returns-then-not-map_fits : goal.returns-then-not-map_fits
returns-then-not-map_fits c =
    let a = c.args in
    c.refused_at-wrong.ensures ∙ sym (not_heap a.block.now (λ h. omega (arith, h.inside, leb-false (map_end a.block.now) (length a.block.now) (fails _ _ c.map_fits.ensures c.if-not-map_fits.true))))

pub returns-then-item_count-gt2047 : goal.returns-then-item_count-gt2047
returns-then-item_count-gt2047 c =
    let a = c.args in
    c.refused_at-wrong.ensures ∙ sym (not_heap a.block.now (λ h. omega (arith, h.few)))

pub returns-then-not-offsets_fit : goal.returns-then-not-offsets_fit
returns-then-not-offsets_fit c =
    let a = c.args in
    c.refused_at-wrong.ensures ∙ sym (not_heap a.block.now (λ h. offsets_fall a.block.now (fails _ _ c.offsets_fit.ensures c.if-not-offsets_fit.true) h))

pub returns : goal.returns
returns c =
    let a = c.args in
    sym
    ((heap_exactly a.block.now).1
    (is_heap a.block.now (omega arith) (omega arith) (sym c.byte_at.ensures ∙ c.if-byte_at-ne236.false) (omega arith) (leb-true _ _ (holds _ _ c.map_fits.ensures c.if-not-map_fits.false)) (omega arith) (holds _ _ c.offsets_fit.ensures c.if-not-offsets_fit.false)))
