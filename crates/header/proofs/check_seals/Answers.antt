use mathlib.Core.Path.{sym, ap, ◌∙◌}
use lib.Dec.{eqb}
use Rattle.laws.proofs.Tests.{fails, holds}
use Rattle.refusal.specs.declared.Fault.TheVariants.{Encoding}
use Rattle.refusal.specs.Order.{◌at◌, none, both, here, later}
use Rattle.refusal.proofs.OrderLaws.{accepted_exactly, refused_exactly}
use Rattle.edition.specs.declared.HeaderPlaces.{HeaderPlaces}
use Rattle.header.specs.Header.{header_sum_fits, seal_rules}
use Rattle.header.proofs.check_seals.Goals as goal
use Rattle.std.specs.Prelude.{Err}

pub returns-then-not-sum_stands : goal.returns-then-not-sum_stands
unfolding seal_rules header_sum_fits
returns-then-not-sum_stands c =
    c.refused_at.ensures ∙ sym ((refused_exactly _ _).1 (here (fails _ _ (c.sum_stands.ensures ∙ ap (eqb _) c.partial_sum-partial.ensures) c.if-not-sum_stands.true)))

pub returns-then-not-whole_fits : goal.returns-then-not-whole_fits
unfolding seal_rules header_sum_fits
returns-then-not-whole_fits c =
    c.refused_at-then-not-whole_fits.ensures ∙ sym ((refused_exactly _ _).1 (later (holds _ _ (c.sum_stands.ensures ∙ ap (eqb _) c.partial_sum-partial.ensures) c.if-not-sum_stands.false) (here (fails _ _ c.whole_fits.ensures c.if-not-whole_fits.true))))

pub returns-then-not-sentinel_fits : goal.returns-then-not-sentinel_fits
unfolding seal_rules header_sum_fits
returns-then-not-sentinel_fits c =
    c.refused_at-then-not-sentinel_fits.ensures ∙ ap (λ (p : HeaderPlaces). Err (Encoding at p.sentinel)) c.places_of-places.ensures
    ∙ sym ((refused_exactly _ _).1 (later (holds _ _ (c.sum_stands.ensures ∙ ap (eqb _) c.partial_sum-partial.ensures) c.if-not-sum_stands.false) (later (holds _ _ c.whole_fits.ensures c.if-not-whole_fits.false) (here (fails _ _ c.sentinel_fits.ensures c.if-not-sentinel_fits.true)))))

pub returns : goal.returns
unfolding seal_rules header_sum_fits
returns c =
    sym ((accepted_exactly (seal_rules _)).1 (both (holds _ _ (c.sum_stands.ensures ∙ ap (eqb _) c.partial_sum-partial.ensures) c.if-not-sum_stands.false) (both (holds _ _ c.whole_fits.ensures c.if-not-whole_fits.false) (both (holds _ _ c.sentinel_fits.ensures c.if-not-sentinel_fits.false) none))))
