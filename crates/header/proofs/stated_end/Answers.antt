use mathlib.Core.Path.{ap, ◌∙◌}
use native.Mathlib.Omega.{arith}
use Rattle.le.specs.Bytes.{field}
use Rattle.edition.specs.declared.HeaderPlaces.{HeaderPlaces}
use Rattle.header.specs.Header.{stated_end}
use Rattle.header.proofs.EditionLaws.{fair_places}
use Rattle.header.proofs.stated_end.Goals as goal

pub field_held-requires : goal.field_held-requires
field_held-requires c = omega (arith, (fair_places c.args.image.now).end.word, ap (λ (p : HeaderPlaces). p.end.width) c.places_of.ensures)

pub returns : goal.returns
unfolding stated_end
returns c =
    let image = c.args.image.now in
    c.field_held.ensures ∙ ap (λ (p : HeaderPlaces). field image p.end.place p.end.width) c.places_of.ensures
