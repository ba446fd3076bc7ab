use mathlib.Core.Path.{◌≡◌, sym, ap, subst, ◌∙◌}
use Rattle.edition.specs.declared.Layout.{Layout}
use Rattle.edition.specs.Fair.{FairLayout}
use Rattle.header.proofs.EditionLaws.{fair_blocks}
use Rattle.tree.specs.Answers.{block_of, found_as}
use Rattle.pst.specs.Meaning.{block_means}
use Rattle.pst.specs.Outcomes.{block_outcome}
use Rattle.pst.proofs.find_block.Goals as goal

pub find-requires : goal.find-requires
find-requires c = subst FairLayout (sym c.blocks_of.ensures) (fair_blocks _)

pub returns : goal.returns
unfolding block_outcome block_of found_as
returns c =
    let a = c.args in
    let l = c.blocks_of.result in
    let answer : c.find.result ≡ block_of l a.image.now a.block = c.find.ensures in
    ap block_means (answer ∙ ap (λ (l : Layout). block_of l a.image.now a.block) c.blocks_of.ensures)
