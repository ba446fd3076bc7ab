use mathlib.Core.Path.{◌≡◌, sym, ap, subst, ◌∙◌}
use Rattle.edition.specs.declared.Layout.{Layout}
use Rattle.edition.specs.Fair.{FairLayout}
use Rattle.header.proofs.EditionLaws.{fair_nodes}
use Rattle.tree.specs.Answers.{next_node_of, found_as}
use Rattle.pst.specs.Meaning.{node_means}
use Rattle.pst.specs.Outcomes.{next_node_outcome}
use Rattle.pst.proofs.next_node.Goals as goal

pub next-requires : goal.next-requires
next-requires c = subst FairLayout (sym c.nodes_of.ensures) (fair_nodes _)

pub returns : goal.returns
unfolding next_node_outcome next_node_of found_as
returns c =
    let a = c.args in
    let l = c.nodes_of.result in
    let answer : c.next.result ≡ next_node_of l a.image.now a.from = c.next.ensures in
    ap node_means (answer ∙ ap (λ (l : Layout). next_node_of l a.image.now a.from) c.nodes_of.ensures)
