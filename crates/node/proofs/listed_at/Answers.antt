use Rattle.std.proofs.Common.{sym, ap, ◌∙◌, Ok}
use Rattle.block.proofs.BlockLaws.{checked_same, checked_not_absent, checked_not_refused}
use Rattle.tree.specs.Answers.{block_of, found_as}
use Rattle.node.proofs.listed_at.Goals as goal

pub unreachable-requires : goal.unreachable-requires
unfolding block_of found_as
unreachable-requires c = checked_not_refused _ _ _ _ _ c.requires.1.is (sym c.at.ensures ∙ c.in_default.is)

pub unreachable-requires-in_default-found : goal.unreachable-requires-in_default-found
unfolding block_of found_as
unreachable-requires-in_default-found c = checked_not_absent _ _ _ _ _ c.requires.1.is (sym c.at.ensures ∙ (c.in-Ok.is ∙ ap Ok c.in_default-found.is))

pub returns : goal.returns
unfolding block_of found_as
returns c =
    let l = c.requires.1 in
    l.is ∙ ap Ok (sym (checked_same _ _ _ _ _ _ l.is (sym c.at.ensures ∙ (c.in-Ok.is ∙ ap Ok c.in-Entry.is))))
