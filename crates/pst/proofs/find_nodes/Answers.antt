use mathlib.Core.Path.{sym, ap, subst, ◌∙◌}
use Rattle.edition.specs.declared.Layout.{Layout}
use Rattle.edition.specs.Fair.{FairLayout}
use Rattle.header.proofs.EditionLaws.{fair_nodes}
use Rattle.nodelist.specs.Places.{area_of}
use Rattle.pst.specs.Meaning.{verdict_means}
use Rattle.pst.specs.Outcomes.{list_outcome, list_area}
use Rattle.pst.proofs.find_nodes.Goals as goal

pub find_nodes-requires : goal.find_nodes-requires
find_nodes-requires c = subst FairLayout (sym c.nodes_of.ensures) (fair_nodes _)

pub returns : goal.returns
unfolding list_outcome list_area
returns c =
    let a = c.args in
    let done = c.find_nodes.ensures in
    let choice = c.nodes_of.ensures in
    record { answer = ap verdict_means done.answer; area = done.area ∙ ap (λ (l : Layout). area_of l a.image.now a.nodes.now a.places.now) choice }
