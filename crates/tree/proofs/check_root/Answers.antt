use mathlib.Core.Path.{ap, ◌∙◌}
use Rattle.header.proofs.HeaderLaws.{header_length}
use Rattle.page.specs.Page.{page_fits}
use Rattle.tree.proofs.Ways.{start_on}
use Rattle.tree.proofs.check_root.Goals as goal

pub root_link-requires : goal.root_link-requires
root_link-requires c = (c.requires.0, header_length _ c.requires.1)

pub returns : goal.returns
returns c =
    let a = c.args in
    c.verdict_on.ensures ∙ ap (page_fits a.l a.image.now) c.root_link.ensures ∙ start_on a.l a.image.now c.requires.1
