use mathlib.Core.Path.{◌≡◌, sym, ap, subst, ◌∙◌}
use Rattle.edition.specs.declared.Layout.{Layout}
use Rattle.edition.specs.Fair.{FairLayout}
use Rattle.header.proofs.EditionLaws.{fair_blocks}
use Rattle.tree.specs.Answers.{next_block_of, found_as}
use Rattle.pst.specs.Meaning.{block_means}
use Rattle.pst.specs.Outcomes.{next_block_outcome}
use Rattle.pst.proofs.next_block.Goals as goal

pub next-requires : goal.next-requires
next-requires c = subst FairLayout (sym c.blocks_of.ensures) (fair_blocks _)

pub returns : goal.returns
unfolding next_block_outcome next_block_of found_as
returns c =
    let a = c.args in
    let l = c.blocks_of.result in
    let answer : c.next.result ≡ next_block_of l a.image.now a.from = c.next.ensures in
    ap block_means (answer ∙ ap (λ (l : Layout). next_block_of l a.image.now a.from) c.blocks_of.ensures)
