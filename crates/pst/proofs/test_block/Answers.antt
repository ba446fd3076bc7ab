use mathlib.Core.Path.{◌≡◌, sym, ap, subst, ◌∙◌}
use Rattle.edition.specs.declared.Edition.{Edition}
use Rattle.edition.specs.Fair.{FairEdition}
use Rattle.header.proofs.EditionLaws.{fair_edition}
use Rattle.block.specs.Block.{test_of}
use Rattle.pst.specs.Meaning.{sized_means}
use Rattle.pst.specs.Outcomes.{test_outcome}
use Rattle.pst.proofs.test_block.Goals as goal

pub test_block-requires : goal.test_block-requires
test_block-requires c = subst FairEdition (sym c.edition_of.ensures) (fair_edition _)

pub returns : goal.returns
unfolding test_outcome
returns c =
    let a = c.args in
    let e = c.edition_of.result in
    let answer : c.test_block.result ≡ test_of e a.image.now a.block = c.test_block.ensures in
    ap sized_means (answer ∙ ap (λ (e : Edition). test_of e a.image.now a.block) c.edition_of.ensures)
