use mathlib.Core.Path.{sym, ap, ◌∙◌}
use Rattle.laws.proofs.Tests.{fails, holds}
use Rattle.heap.proofs.ItemLaws.{number_exactly}
use Rattle.heaptree.specs.Root.{root_fits}
use Rattle.heaptree.proofs.RootLaws.{wrong_number, wrong_record, right_record}
use Rattle.heaptree.proofs.check_root.Goals as goal

pub returns-then-not-item_fits : goal.returns-then-not-item_fits
returns-then-not-item_fits c = c.refused_at.ensures ∙ sym (wrong_number _ _ _ (fails _ _ c.item_fits.ensures c.if-not-item_fits.true))

pub part_of-requires : goal.part_of-requires
part_of-requires c = (c.requires, (number_exactly _ _).0 (holds _ _ c.item_fits.ensures c.if-not-item_fits.false))

pub returns-then-not-root_fits : goal.returns-then-not-root_fits
returns-then-not-root_fits c =
    let a = c.args in
    c.refused_at-then-not-root_fits.ensures
    ∙ sym (wrong_record a.tree a.block.now a.root (holds _ _ c.item_fits.ensures c.if-not-item_fits.false) (fails _ _ (c.root_fits.ensures ∙ ap (root_fits a.tree) c.part_of.ensures) c.if-not-root_fits.true))

pub returns : goal.returns
returns c =
    let a = c.args in
    sym (right_record a.tree a.block.now a.root (holds _ _ c.item_fits.ensures c.if-not-item_fits.false) (holds _ _ (c.root_fits.ensures ∙ ap (root_fits a.tree) c.part_of.ensures) c.if-not-root_fits.false))
