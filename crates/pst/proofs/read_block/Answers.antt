use mathlib.Core.Path.{◌≡◌, sym, ap, subst, ◌∙◌}
use lib.ListN.{length}
use Rattle.edition.specs.declared.Edition.{Edition}
use Rattle.edition.specs.Fair.{FairEdition}
use Rattle.header.proofs.EditionLaws.{fair_edition}
use Rattle.block.specs.Block.{read_of, filled_of}
use Rattle.pst.specs.Meaning.{sized_means}
use Rattle.pst.specs.Outcomes.{read_outcome, read_buffer}
use Rattle.pst.proofs.read_block.Goals as goal

pub read_block-requires : goal.read_block-requires
read_block-requires c = subst FairEdition (sym c.edition_of.ensures) (fair_edition _)

pub returns : goal.returns
unfolding read_outcome read_buffer
returns c =
    let a = c.args in
    let done = c.read_block.ensures in
    let choice = c.edition_of.ensures in
    let e = c.edition_of.result in
    let answer : c.read_block.result ≡ read_of e a.image.now a.block (length a.out.now) = done.answer in
    record { answer = ap sized_means (answer ∙ ap (λ (e : Edition). read_of e a.image.now a.block (length a.out.now)) choice); buffer = done.buffer ∙ ap (λ (e : Edition). filled_of e a.image.now a.block a.out.now) choice }
