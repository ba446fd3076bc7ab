use mathlib.Core.Path.{ap, ◌∙◌}
use Rattle.block.specs.Block.{block_fits, tested_by, checked_block}
use Rattle.tree.specs.Answers.{block_of, found_as}
use Rattle.block.proofs.check_block_at.Goals as goal

pub returns : goal.returns
unfolding checked_block block_of found_as
returns c =
    let a = c.args in
    c.test_found.ensures ∙ ap (tested_by (block_fits a.e.trailer a.image.now)) c.at.ensures
