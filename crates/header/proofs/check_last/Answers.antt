use Prim.Native.Nat.{◌+◌}
use mathlib.Core.Path.{sym, ap, ◌∙◌}
use native.Mathlib.Omega.{arith}
use Rattle.laws.proofs.Tests.{fails, holds}
use Rattle.refusal.specs.declared.Fault.TheVariants.{ImageLength, Encoding}
use Rattle.refusal.specs.Order.{◌at◌, none, both, here, later}
use Rattle.refusal.proofs.OrderLaws.{accepted_exactly, refused_exactly}
use Rattle.edition.specs.declared.HeaderPlaces.{HeaderPlaces}
use Rattle.header.specs.Header.{last_rules}
use Rattle.header.proofs.EditionLaws.{fair_places}
use Rattle.header.proofs.check_last.Goals as goal
use Rattle.std.specs.Prelude.{Err}

pub overflow_add-places : goal.overflow_add-places
overflow_add-places c =
    omega (arith, (fair_places c.args.image.now).sentinel, ap (λ (p : HeaderPlaces). p.sentinel) c.places_of-places.ensures)

pub returns-then-not-known : goal.returns-then-not-known
unfolding last_rules
returns-then-not-known c =
    c.refused_at.ensures ∙ ap (λ (p : HeaderPlaces). Err (Encoding at (p.sentinel + 1))) c.places_of-places.ensures
    ∙ sym ((refused_exactly _ _).1 (here (fails _ _ c.encoding_fits-known.ensures c.if-not-known.true)))

pub returns-then-not-reached : goal.returns-then-not-reached
unfolding last_rules
returns-then-not-reached c =
    c.refused_at-then-not-reached.ensures ∙ ap (λ (p : HeaderPlaces). Err (ImageLength at p.end.place)) c.places_of-places.ensures
    ∙ sym ((refused_exactly _ _).1 (later (holds _ _ c.encoding_fits-known.ensures c.if-not-known.false) (here (fails _ _ c.end_fits-reached.ensures c.if-not-reached.true))))

pub returns : goal.returns
unfolding last_rules
returns c =
    sym ((accepted_exactly (last_rules _)).1 (both (holds _ _ c.encoding_fits-known.ensures c.if-not-known.false) (both (holds _ _ c.end_fits-reached.ensures c.if-not-reached.false) none)))
