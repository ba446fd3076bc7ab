use Prim.Native.Nat.{◌+◌}
use mathlib.Core.Path.{ap, ◌∙◌}
use native.Mathlib.Omega.{arith}
use Rattle.le.specs.Bytes.{byte}
use Rattle.edition.specs.declared.HeaderPlaces.{HeaderPlaces}
use Rattle.header.specs.Header.{method_of}
use Rattle.header.proofs.EditionLaws.{fair_places}
use Rattle.header.proofs.method_of.Goals as goal

pub overflow_add-places : goal.overflow_add-places
overflow_add-places c = omega (arith, (fair_places c.args.image.now).sentinel, ap (λ (p : HeaderPlaces). p.sentinel) c.places_of-places.ensures)

pub byte_at-requires : goal.byte_at-requires
byte_at-requires c = omega (arith, (fair_places c.args.image.now).sentinel, ap (λ (p : HeaderPlaces). p.sentinel) c.places_of-places.ensures)

pub returns : goal.returns
unfolding method_of
returns c =
    let image = c.args.image.now in
    c.byte_at.ensures ∙ ap (λ (p : HeaderPlaces). byte image (p.sentinel + 1)) c.places_of-places.ensures
