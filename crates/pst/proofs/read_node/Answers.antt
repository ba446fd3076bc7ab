use mathlib.Core.Path.{◌≡◌, sym, ap, subst, ◌∙◌}
use lib.ListN.{length}
use Rattle.edition.specs.declared.Edition.{Edition}
use Rattle.edition.specs.Fair.{FairEdition}
use Rattle.header.proofs.EditionLaws.{fair_edition}
use Rattle.node.specs.Content.{node_content, answer_to, filled_by}
use Rattle.pst.specs.Meaning.{data_means}
use Rattle.pst.specs.Outcomes.{data_outcome, data_buffer}
use Rattle.pst.proofs.read_node.Goals as goal

pub read_node-requires : goal.read_node-requires
read_node-requires c = subst FairEdition (sym c.edition_of.ensures) (fair_edition _)

pub returns : goal.returns
unfolding data_outcome data_buffer
returns c =
    let a = c.args in
    let done = c.read_node.ensures in
    let choice = c.edition_of.ensures in
    let e = c.edition_of.result in
    let answer : c.read_node.result ≡ answer_to (node_content e a.image.now a.node) (length a.out.now) = done.answer in
    record { answer = ap data_means (answer ∙ ap (λ (e : Edition). answer_to (node_content e a.image.now a.node) (length a.out.now)) choice); buffer = done.buffer ∙ ap (λ (e : Edition). filled_by (node_content e a.image.now a.node) a.out.now) choice }
