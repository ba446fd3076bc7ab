use mathlib.Core.Path.{sym, ◌∙◌}
use Rattle.laws.proofs.Tests.{fails, holds}
use Rattle.refusal.specs.Order.{none, both, here, later}
use Rattle.refusal.proofs.OrderLaws.{append_goes, refused_exactly}
use Rattle.page.specs.Page.{bytes_rules}
use Rattle.page.proofs.check_bytes.Goals as goal

pub returns-then-not-kind_fits : goal.returns-then-not-kind_fits
unfolding bytes_rules
returns-then-not-kind_fits c =
    c.refused_at.ensures ∙ sym ((refused_exactly _ _).1 (here (fails _ _ c.kind_fits.ensures c.if-not-kind_fits.true)))

pub returns-then-not-number_fits : goal.returns-then-not-number_fits
unfolding bytes_rules
returns-then-not-number_fits c =
    c.refused_at-then-not-number_fits.ensures ∙ sym ((refused_exactly _ _).1 (later (holds _ _ c.kind_fits.ensures c.if-not-kind_fits.false) (here (fails _ _ c.number_fits.ensures c.if-not-number_fits.true))))

pub returns-then-not-checksum_fits : goal.returns-then-not-checksum_fits
unfolding bytes_rules
returns-then-not-checksum_fits c =
    c.refused_at-then-not-checksum_fits.ensures ∙ sym ((refused_exactly _ _).1 (later (holds _ _ c.kind_fits.ensures c.if-not-kind_fits.false) (later (holds _ _ c.number_fits.ensures c.if-not-number_fits.false) (here (fails _ _ c.checksum_fits.ensures c.if-not-checksum_fits.true)))))

pub returns-then-not-counts_fit : goal.returns-then-not-counts_fit
unfolding bytes_rules
returns-then-not-counts_fit c =
    c.refused_at-then-not-counts_fit.ensures ∙ sym ((refused_exactly _ _).1 (later (holds _ _ c.kind_fits.ensures c.if-not-kind_fits.false) (later (holds _ _ c.number_fits.ensures c.if-not-number_fits.false) (later (holds _ _ c.checksum_fits.ensures c.if-not-checksum_fits.false) (here (fails _ _ c.counts_fit.ensures c.if-not-counts_fit.true))))))

pub returns : goal.returns
unfolding bytes_rules
returns c =
    c.check_keys.ensures
    ∙ sym
    (append_goes (bytes_rules _ _ _) _
    (both (holds _ _ c.kind_fits.ensures c.if-not-kind_fits.false)
    (both (holds _ _ c.number_fits.ensures c.if-not-number_fits.false)
    (both (holds _ _ c.checksum_fits.ensures c.if-not-checksum_fits.false)
    (both (holds _ _ c.counts_fit.ensures c.if-not-counts_fit.false) none)))))
