use mathlib.Core.Path.{sym, ◌∙◌}
use Rattle.laws.proofs.Tests.{fails, holds}
use Rattle.refusal.specs.Order.{none, both, here, later}
use Rattle.refusal.proofs.OrderLaws.{accepted_exactly, refused_exactly}
use Rattle.header.specs.Header.{mark_rules}
use Rattle.header.proofs.HeaderLaws.{long_enough}
use Rattle.header.proofs.check_marks.Goals as goal

pub returns-then-not-length_fits : goal.returns-then-not-length_fits
unfolding mark_rules
returns-then-not-length_fits c =
    c.refused_at.ensures ∙ sym ((refused_exactly _ _).1 (here (fails _ _ c.length_fits.ensures c.if-not-length_fits.true)))

pub magic_fits-requires : goal.magic_fits-requires
magic_fits-requires c = long_enough _ (holds _ _ c.length_fits.ensures c.if-not-length_fits.false)

pub returns-then-not-magic_fits : goal.returns-then-not-magic_fits
unfolding mark_rules
returns-then-not-magic_fits c =
    c.refused_at-then-not-magic_fits.ensures ∙ sym ((refused_exactly _ _).1 (later (holds _ _ c.length_fits.ensures c.if-not-length_fits.false) (here (fails _ _ c.magic_fits.ensures c.if-not-magic_fits.true))))

pub client_fits-requires : goal.client_fits-requires
client_fits-requires c = long_enough _ (holds _ _ c.length_fits.ensures c.if-not-length_fits.false)

pub returns-then-not-client_fits : goal.returns-then-not-client_fits
unfolding mark_rules
returns-then-not-client_fits c =
    c.refused_at-then-not-client_fits.ensures ∙ sym ((refused_exactly _ _).1 (later (holds _ _ c.length_fits.ensures c.if-not-length_fits.false) (later (holds _ _ c.magic_fits.ensures c.if-not-magic_fits.false) (here (fails _ _ c.client_fits.ensures c.if-not-client_fits.true)))))

pub returns-then-not-version_fits : goal.returns-then-not-version_fits
unfolding mark_rules
returns-then-not-version_fits c =
    c.refused_at-then-not-version_fits.ensures ∙ sym ((refused_exactly _ _).1 (later (holds _ _ c.length_fits.ensures c.if-not-length_fits.false) (later (holds _ _ c.magic_fits.ensures c.if-not-magic_fits.false) (later (holds _ _ c.client_fits.ensures c.if-not-client_fits.false) (here (fails _ _ c.version_fits.ensures c.if-not-version_fits.true))))))

pub returns : goal.returns
unfolding mark_rules
returns c =
    sym ((accepted_exactly (mark_rules _)).1 (both (holds _ _ c.length_fits.ensures c.if-not-length_fits.false) (both (holds _ _ c.magic_fits.ensures c.if-not-magic_fits.false) (both (holds _ _ c.client_fits.ensures c.if-not-client_fits.false) (both (holds _ _ c.version_fits.ensures c.if-not-version_fits.false) none)))))
