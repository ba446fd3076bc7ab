use mathlib.Core.Path.{◌≡◌, sym, ap, subst, ◌∙◌}
use Rattle.edition.specs.declared.Layout.{Layout}
use Rattle.edition.specs.Fair.{FairLayout}
use Rattle.header.proofs.EditionLaws.{fair_nodes}
use Rattle.tree.specs.Answers.{node_of, found_as}
use Rattle.pst.specs.Meaning.{node_means}
use Rattle.pst.specs.Outcomes.{node_outcome}
use Rattle.pst.proofs.find_node.Goals as goal

pub find-requires : goal.find-requires
find-requires c = subst FairLayout (sym c.nodes_of.ensures) (fair_nodes _)

pub returns : goal.returns
unfolding node_outcome node_of found_as
returns c =
    let a = c.args in
    let l = c.nodes_of.result in
    let answer : c.find.result ≡ node_of l a.image.now a.node = c.find.ensures in
    ap node_means (answer ∙ ap (λ (l : Layout). node_of l a.image.now a.node) c.nodes_of.ensures)
