use mathlib.Core.Path.{sym, ◌∙◌}
use Rattle.laws.proofs.Tests.{fails, holds}
use Rattle.refusal.specs.Order.{none, both, here, later}
use Rattle.refusal.proofs.OrderLaws.{accepted_exactly, refused_exactly}
use Rattle.block.specs.Block.{trailer_rules}
use Rattle.block.proofs.test_bytes.Goals as goal

pub returns-then-not-trailer_fits : goal.returns-then-not-trailer_fits
unfolding trailer_rules
returns-then-not-trailer_fits c =
    c.refused_at.ensures ∙ sym ((refused_exactly _ _).1 (here (fails _ _ c.trailer_fits.ensures c.if-not-trailer_fits.true)))

pub returns-then-not-sum_fits : goal.returns-then-not-sum_fits
unfolding trailer_rules
returns-then-not-sum_fits c =
    c.refused_at-then-not-sum_fits.ensures ∙ sym ((refused_exactly _ _).1 (later (holds _ _ c.trailer_fits.ensures c.if-not-trailer_fits.false) (here (fails _ _ c.sum_fits.ensures c.if-not-sum_fits.true))))

pub returns : goal.returns
unfolding trailer_rules
returns c =
    sym ((accepted_exactly (trailer_rules _ _ _ _)).1 (both (holds _ _ c.trailer_fits.ensures c.if-not-trailer_fits.false) (both (holds _ _ c.sum_fits.ensures c.if-not-sum_fits.false) none)))
