use Rattle.tree.proofs.Children.{link_is}
use Rattle.tree.proofs.link_at.Goals as goal

pub returns : goal.returns
returns c =
    let a = c.args in
    link_is a.l a.shape a.count a.page.now a.to a.i a.level _ _ _ c.requires.3 c.requires.1 c.requires.2
    c.field_of.ensures.0 c.field_of-2.ensures.0 c.range_at.ensures
