use mathlib.Core.Path.{◌≡◌, sym, ap, subst, ◌∙◌}
use Rattle.edition.specs.declared.Layout.{Layout}
use Rattle.edition.specs.Fair.{FairLayout}
use Rattle.header.proofs.EditionLaws.{fair_nodes}
use Rattle.tree.specs.Tree.{tree_fits}
use Rattle.pst.specs.Meaning.{verdict_means}
use Rattle.pst.specs.Outcomes.{nodes_outcome}
use Rattle.pst.proofs.check_nodes.Goals as goal

pub check_tree-requires : goal.check_tree-requires
check_tree-requires c = subst FairLayout (sym c.nodes_of.ensures) (fair_nodes _)

pub returns : goal.returns
unfolding nodes_outcome
returns c =
    let a = c.args in
    let l = c.nodes_of.result in
    let answer : c.check_tree.result ≡ tree_fits l a.image.now = c.check_tree.ensures in
    ap verdict_means (answer ∙ ap (λ (l : Layout). tree_fits l a.image.now) c.nodes_of.ensures)
